-- What a taker of lines was handed of a log that is read piece by piece, where what is due is written before each read.
use Rattle.std.specs.Prelude.{◌≡◌, ℕ, ◌+◌, ◌^◌, ◌<◌, ◌≤◌, ◌⊎◌, Bool, List, ◌∷◌, [], ◌++◌, length, take, Option, Result, Ok, Err, ⊤}
use Rattle.can_log.specs.Log.{LogMeans}
use Rattle.can_log.specs.Scanning.{Standing}
use Rattle.can_log.specs.WholeLog.{StandsAfter, IsRefusedBehind, IsRefusedWithin}
use Rattle.can_log.specs.declared.frame.Stamped.{Stamped}
use Rattle.trace_log.specs.Answers.{piece_length}
use Rattle.trace_log.specs.Summing.{ends_in_line_feed}
use Rattle.trace_log.specs.declared.fault.Fault.{Fault}
use Rattle.trace_log.specs.declared.fault.Fault.TheVariants as fault

-- what a taker of lines went from, the lines that it took, and what it is now
abbrev pub Took : Type 0 → Type 1
Took T = T → List (Option Stamped) → T → Type 0

-- what it went from, the lines that it took, the line on which it stopped, why, and what it is now
abbrev pub Stopped : Type 0 → Type 1
Stopped T = T → List (Option Stamped) → Option Stamped → Fault → T → Type 0

-- a log that begins with these bytes is refused at this place in them, after lines that mean this
abbrev pub RefusesIn : List ℕ → List (Option Stamped) → ℕ → ℕ → Type 0
RefusesIn bytes meanings line column = (more : List ℕ) → IsRefusedWithin (length bytes) meanings (bytes ++ more) line column

-- A line that ended among these bytes means this, after lines that mean that, which go on from those first ones.
pub record StopsIn (first : List (Option Stamped)) (bytes : List ℕ) (meanings : List (Option Stamped)) (what : Option Stamped) : Type 0 where
  pub front : List ℕ
  pub rest : List ℕ
  pub standing : Standing
  pub more : List (Option Stamped)
  pub parts : bytes ≡ front ++ rest
  pub stands : StandsAfter front (meanings ++ what ∷ []) standing
  pub since : meanings ≡ first ++ more

-- The same of a log, of which this many bytes were given; the first lines are those that had ended before the last piece.
pub record StopsInLog (log : List ℕ) (given : ℕ) (meanings : List (Option Stamped)) (what : Option Stamped) : Type 0 where
  pub first : List (Option Stamped)
  pub before : List ℕ
  pub behind : List ℕ
  pub stood : Standing
  pub starts : log ≡ before ++ behind
  pub stands_before : StandsAfter before first stood
  pub near : given ≤ length before + piece_length
  pub stops : StopsIn first (take given log) meanings what

-- A scanner has taken at least `count` bytes of the log, and each line that ended there was taken.
pub record TakesFront {T : Type 0} (took : Took T) (start : T) (log : List ℕ) (count : ℕ) : Type 0 where
  pub front : List ℕ
  pub rest : List ℕ
  pub meanings : List (Option Stamped)
  pub standing : Standing
  pub now : T
  pub parts : log ≡ front ++ rest
  pub stands : StandsAfter front meanings standing
  pub taken : took start meanings now
  pub long : count ≤ length front

-- A scanner has taken all of the log; the lines that have ended then are the first of these, or all.
pub record HasEnded (log : List ℕ) (meanings : List (Option Stamped)) : Type 0 where
  pub earlier : List (Option Stamped)
  pub more : List (Option Stamped)
  pub standing : Standing
  pub stands : StandsAfter log earlier standing
  pub since : meanings ≡ earlier ++ more

-- The last line of a log has no line feed and means this, after lines that mean that.
pub record StopsAtEnd (log : List ℕ) (meanings : List (Option Stamped)) (what : Option Stamped) : Type 0 where
  pub standing : Standing
  pub stands : StandsAfter log meanings standing
  pub means : LogMeans log (meanings ++ what ∷ [])

-- Within its limit m, such a line ended among the bytes given of the log; or it is the unfinished last line of a log
-- that was given whole.
abbrev pub StopsWithin : ℕ → List ℕ → ℕ → List (Option Stamped) → Option Stamped → Type 0
StopsWithin m log given meanings what =
    ((given ≤ m) × StopsInLog log given meanings what) ⊎ ((length log ≤ m) × (given ≡ length log) × StopsAtEnd log meanings what)

-- a fault for which a taker stops on a line
abbrev pub IsOfTaker : Fault → Type 0
IsOfTaker (fault.Oversize line announced) = ⊤
IsOfTaker fault.Memory = ⊤
IsOfTaker (fault.BadLine line column) = ⊥
IsOfTaker fault.LogLimit = ⊥
IsOfTaker fault.OutputLimit = ⊥
IsOfTaker fault.Read = ⊥
IsOfTaker fault.Write = ⊥

-- the count of failures rose by one where the source failed, and else stayed
abbrev pub CountsRead : Fault → ℕ → ℕ → Type 0
CountsRead fault.Read old new = new ≡ old + 1
CountsRead (fault.BadLine line column) old new = new ≡ old
CountsRead (fault.Oversize line announced) old new = new ≡ old
CountsRead fault.LogLimit old new = new ≡ old
CountsRead fault.OutputLimit old new = new ≡ old
CountsRead fault.Write old new = new ≡ old
CountsRead fault.Memory old new = new ≡ old

-- The text of the lines that had ended before the last piece was written; `given` bytes of the log were given.
pub record WroteBefore {T : Type 0} (sure : Took T) (start : T) (log : List ℕ) (given : ℕ) (now : T) : Type 0 where
  pub front : List ℕ
  pub rest : List ℕ
  pub meanings : List (Option Stamped)
  pub standing : Standing
  pub parts : log ≡ front ++ rest
  pub stands : StandsAfter front meanings standing
  pub near : given ≤ length front + piece_length
  pub written : sure start meanings now

-- `given` bytes of the log were given, within its limit m, and all lines that had ended were taken.
abbrev pub TakesGiven : {T : Type 0} → Took T → T → ℕ → List ℕ → ℕ → T → Type 0
TakesGiven took start m log given now =
    (meanings : List (Option Stamped)) × took start meanings now × (given ≤ m) × (given ≤ length log) × ((standing : Standing) × StandsAfter (take given log) meanings standing)

-- some lines were taken
abbrev pub TakesAny : {T : Type 0} → Took T → T → T → Type 0
TakesAny took start now = (meanings : List (Option Stamped)) × took start meanings now

-- the taker stopped on some line
abbrev pub StopsOnAny : {T : Type 0} → Stopped T → T → Fault → T → Type 0
StopsOnAny stopped start why now = (meanings : List (Option Stamped)) × (what : Option Stamped) × stopped start meanings what why now

-- within the limit m of the log, it did
abbrev pub StopsLog : {T : Type 0} → Stopped T → T → ℕ → List ℕ → ℕ → Fault → T → Type 0
StopsLog stopped start m log given why now =
    (meanings : List (Option Stamped)) × (what : Option Stamped) × stopped start meanings what why now × StopsWithin m log given meanings what

module _ {T : Type 0} (took rested broke : Took T) (stopped : Stopped T) (start : T) where
  -- The log was read within its limit m, of which this many bytes were given. Where reading failed, all that was due is
  -- written, or that failed.
  abbrev pub FeedsLog : ℕ → List ℕ → ℕ → Result Bool Fault → T → Type 0
  FeedsLog m log given (Ok ended) now =
      (meanings : List (Option Stamped)) × (length log ≤ m) × (given ≡ length log) × LogMeans log meanings × HasEnded log meanings × took start meanings now
      × (ended ≡ ends_in_line_feed log)
  FeedsLog m log given (Err (fault.BadLine line column)) now =
      (meanings : List (Option Stamped)) × took start meanings now
      × (((given ≤ m) × RefusesIn (take given log) meanings line column) ⊎ ((length log ≤ m) × (given ≡ length log) × IsRefusedBehind meanings log line column))
  FeedsLog m log given (Err fault.LogLimit) now =
      (meanings : List (Option Stamped)) × took start meanings now × (m < length log) × (m ≤ given)
      × ((standing : Standing) × StandsAfter (take m log) meanings standing)
  FeedsLog m log given (Err (fault.Oversize line announced)) now = StopsLog stopped start m log given (fault.Oversize line announced) now
  FeedsLog m log given (Err fault.Memory) now = StopsLog stopped start m log given fault.Memory now
  FeedsLog m log given (Err fault.Read) now = TakesGiven rested start m log given now
  FeedsLog m log given (Err fault.Write) now = TakesGiven broke start m log given now
  FeedsLog m log given (Err fault.OutputLimit) now = ⊥

  -- whatever the bytes were, some lines were taken
  abbrev pub FeedsSome : {A : Type 0} → Result A Fault → T → Type 0
  FeedsSome (Ok value) now = (meanings : List (Option Stamped)) × (length meanings < 2 ^ 62) × took start meanings now
  FeedsSome (Err (fault.BadLine line column)) now = TakesAny took start now
  FeedsSome (Err fault.LogLimit) now = TakesAny took start now
  FeedsSome (Err fault.Read) now = TakesAny rested start now
  FeedsSome (Err fault.Write) now = TakesAny broke start now
  FeedsSome (Err (fault.Oversize line announced)) now = StopsOnAny stopped start (fault.Oversize line announced) now
  FeedsSome (Err fault.Memory) now = StopsOnAny stopped start fault.Memory now
  FeedsSome (Err fault.OutputLimit) now = ⊥
