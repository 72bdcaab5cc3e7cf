-- Receptions that are open (ISO 15765-2, sections 9.6 and 9.8), by looking back over the whole trace. This is what is to be
-- judged: it speaks of positions, as the standard does, and has no state that goes from frame to frame.
use Rattle.std.specs.Prelude.{◌≡◌, ◌<◌, ◌≤◌, ℕ, ◌+◌, List, length, ⊤}
use Rattle.isotp_receive.specs.declared.channel.Channel.{Channel}
use Rattle.isotp_receive.specs.Trace.{Entry, At, FirstFrame, FirstFrameAt, ConsecutiveFrameAt, FrameRole, single, first, consecutive, continue_or_wait, overflow, no_part, role}
use Rattle.isotp_receive.specs.Places.{bytes_in_first, bytes_before, IsConsecutiveCount, FitsAs, consecutive_frames_in, between, AtPlaces}
use Rattle.isotp_receive.specs.OnTime.{IsReference, IsOnTime}
use Rattle.isotp_receive.specs.Fit.{Fit, FitsSo}
use Rattle.isotp_receive.specs.StandingReception.{StandingReception}

-- A frame of this role leaves a reception open that the first frame `start` began, `in_first` bytes in it and `count`
-- consecutive frames to come, where `before` of them came before the frame: no new start, no overflow before the first
-- consecutive frame, and each consecutive frame fits as its number and is on time.
abbrev pub LeavesOpen : FirstFrame → ℕ → ℕ → ℕ → Type 0 → FrameRole → Type 0
LeavesOpen start in_first count before OnTime (consecutive sequence_number can_dl bytes) =
    FitsAs in_first start.rx_dl start.len count (before + 1) sequence_number can_dl × OnTime
LeavesOpen start in_first count before OnTime overflow = 0 < before
LeavesOpen start in_first count before OnTime (single message) = ⊥
LeavesOpen start in_first count before OnTime (first other) = ⊥
LeavesOpen start in_first count before OnTime continue_or_wait = ⊤
LeavesOpen start in_first count before OnTime no_part = ⊤

-- The reception of d that began at `begun` is open at `position`, after `number` consecutive frames. The position may be
-- one past the end of T.
pub record IsOpenAt (limit : ℕ) (T : List Entry) (d : Channel) (begun number position : ℕ) : Type 0 where
  pub later : begun < position
  pub inside : position ≤ length T
  -- at `begun` is a first frame of d that announces at most the limit
  pub begins : FirstFrameAt T d begun
  pub fits : begins.start.len ≤ limit
  -- how many consecutive frames hold the rest
  pub count : ℕ
  pub least : IsConsecutiveCount (bytes_in_first begins.entry.frame.bytes) begins.start.rx_dl begins.start.len count
  -- each frame strictly between leaves the reception open
  pub each : (place : ℕ) (entry : Entry) → begun < place → place < position → At T place entry
      → LeavesOpen begins.start (bytes_in_first begins.entry.frame.bytes) count (consecutive_frames_in d (between T begun place))
      (IsOnTime T d begun place entry) (role d entry)
  -- `number` of them are consecutive frames of d, and more are to come
  pub taken : number ≡ consecutive_frames_in d (between T begun position)
  pub more : number < count

-- At `position` stands a consecutive frame of d, where a reception is open, and it fits so as the next one.
pub record FitsOpen (limit : ℕ) (T : List Entry) (d : Channel) (position : ℕ) (fit : Fit) : Type 0 where
  pub begun : ℕ
  pub number : ℕ
  pub is_open : IsOpenAt limit T d begun number position
  pub next : ConsecutiveFrameAt T d position
  pub fits : FitsSo (bytes_in_first is_open.begins.entry.frame.bytes) is_open.begins.start.rx_dl is_open.begins.start.len is_open.count
      (number + 1) next.sequence_number next.can_dl (IsOnTime T d begun position next.entry) fit

-- What stands at `position` for d: a reception is open there, and this is what is known of it. Its bytes are those that
-- have come.
pub record IsStandingAt (limit : ℕ) (T : List Entry) (d : Channel) (position : ℕ) (standing : StandingReception) : Type 0 where
  pub begun : ℕ
  pub number : ℕ
  pub is_open : IsOpenAt limit T d begun number position
  pub line : standing.line ≡ is_open.begins.start.line
  pub len : standing.len ≡ is_open.begins.start.len
  pub rx_dl : standing.rx_dl ≡ is_open.begins.start.rx_dl
  pub taken : standing.taken ≡ number
  pub size : length standing.bytes ≡ bytes_before (bytes_in_first is_open.begins.entry.frame.bytes) standing.rx_dl number
  pub places : AtPlaces T d begun is_open.begins.entry standing.rx_dl standing.bytes
  -- the reference frame of what comes next is at `latest`
  pub latest : ℕ
  pub last : Entry
  pub refers : IsReference T d begun position latest
  pub stands : At T latest last
  pub reference : standing.reference ≡ last.micros
