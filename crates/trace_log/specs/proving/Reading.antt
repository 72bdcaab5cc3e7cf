-- Devices of proof: the lines of pieces of a log, handed on one by one.
use Rattle.std.specs.Prelude.{◌≡◌, ◌++◌, Bool, ℕ, List, Option, Result, Ok, Err, ⊤}
use Rattle.can_log.specs.Log.{LogMeans}
use Rattle.can_log.specs.Scanning.{Standing}
use Rattle.can_log.specs.WholeLog.{StandsAfter, IsRefusedBehind}
use Rattle.can_log.specs.declared.frame.Stamped.{Stamped}
use Rattle.trace_log.specs.Feeding.{Took, Stopped, RefusesIn, StopsIn, HasEnded, StopsAtEnd}
use Rattle.trace_log.specs.Summing.{ends_in_line_feed}
use Rattle.trace_log.specs.declared.fault.Fault.{Fault}
use Rattle.trace_log.specs.declared.fault.Fault.TheVariants as fault

-- a fault that the lines themselves give: a refused place, or one of the taker
abbrev pub IsOfLines : Fault → Type 0
IsOfLines (fault.BadLine line column) = ⊤
IsOfLines (fault.Oversize line announced) = ⊤
IsOfLines fault.Memory = ⊤
IsOfLines fault.LogLimit = ⊥
IsOfLines fault.OutputLimit = ⊥
IsOfLines fault.Read = ⊥
IsOfLines fault.Write = ⊥

module _ {T : Type 0} (took : Took T) (stopped : Stopped T) (start : T) where
  -- a piece was read after these bytes of a log, and the taker stopped on a line that ended there
  abbrev pub StopsPiece : List (Option Stamped) → List ℕ → Fault → T → Type 0
  StopsPiece first bytes why now = (meanings : List (Option Stamped)) × (what : Option Stamped) × StopsIn first bytes meanings what × stopped start meanings what why now

  -- after these bytes of a log a piece was read: all of it, or up to a refused place, or up to the line on which the
  -- taker stopped
  abbrev pub ReadsPiece : {A : Type 0} → List (Option Stamped) → List ℕ → List ℕ → Result A Fault → Standing → T → Type 0
  ReadsPiece first bytes piece (Ok value) standing now = (meanings : List (Option Stamped)) × StandsAfter (bytes ++ piece) meanings standing × took start meanings now
  ReadsPiece first bytes piece (Err (fault.BadLine line column)) standing now =
      (meanings : List (Option Stamped)) × RefusesIn (bytes ++ piece) meanings line column × took start meanings now
  ReadsPiece first bytes piece (Err (fault.Oversize line announced)) standing now = StopsPiece first (bytes ++ piece) (fault.Oversize line announced) now
  ReadsPiece first bytes piece (Err fault.Memory) standing now = StopsPiece first (bytes ++ piece) fault.Memory now
  ReadsPiece first bytes piece (Err fault.LogLimit) standing now = ⊥
  ReadsPiece first bytes piece (Err fault.OutputLimit) standing now = ⊥
  ReadsPiece first bytes piece (Err fault.Read) standing now = ⊥
  ReadsPiece first bytes piece (Err fault.Write) standing now = ⊥

  -- the taker stopped on the last line
  abbrev pub StopsEnd : List ℕ → Fault → T → Type 0
  StopsEnd log why now = (meanings : List (Option Stamped)) × (what : Option Stamped) × StopsAtEnd log meanings what × stopped start meanings what why now

  -- the end of the log was read
  abbrev pub ReadsEnd : List ℕ → Result Bool Fault → T → Type 0
  ReadsEnd log (Ok ended) now =
      (meanings : List (Option Stamped)) × LogMeans log meanings × HasEnded log meanings × took start meanings now × (ended ≡ ends_in_line_feed log)
  ReadsEnd log (Err (fault.BadLine line column)) now = (meanings : List (Option Stamped)) × IsRefusedBehind meanings log line column × took start meanings now
  ReadsEnd log (Err (fault.Oversize line announced)) now = StopsEnd log (fault.Oversize line announced) now
  ReadsEnd log (Err fault.Memory) now = StopsEnd log fault.Memory now
  ReadsEnd log (Err fault.LogLimit) now = ⊥
  ReadsEnd log (Err fault.OutputLimit) now = ⊥
  ReadsEnd log (Err fault.Read) now = ⊥
  ReadsEnd log (Err fault.Write) now = ⊥
