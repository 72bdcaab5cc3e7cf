-- A recording of a list of messages: which positions of a trace each message is given, and what is there
-- (ISO 15765-2, sections 9.6 and 9.8). Nothing is received here: there is no state, and the trace is looked at as a whole.
use Rattle.std.specs.Prelude.{◌≡◌, ◌<◌, ◌≤◌, ℕ, suc, ◌+◌, ◌-◌, List, [], ◌∷◌, length, map, slice_index, nat_lt, Result, Ok, Err, ⊤, ◌⊎◌, if◌then◌else◌}
use Rattle.std.specs.List.{AllByRecursion}
use Rattle.direction.specs.Dir.{Message}
use Rattle.isotp_receive.specs.declared.channel.Channel.{Channel}
use Rattle.isotp_pdu.specs.Layout.{Layout}
use Rattle.isotp_receive.specs.Channels.{dir_of}
use Rattle.isotp_pdu.specs.Layout as layout
use Rattle.isotp_receive.specs.declared.event.Reason.{Reason}
use Rattle.isotp_pdu.specs.declared.Status.TheVariants.{Continue, Wait, Overflow}
use Rattle.isotp_receive.specs.Trace.{Entry, At, layout_in, FirstFrame, SingleFrameAt, FirstFrameAt, ConsecutiveFrameAt}
use Rattle.isotp_receive.specs.Places.{bytes_in_first, bytes_before, IsConsecutiveCount, FitsAs}
use Rattle.isotp_receive.specs.OnTime.{IsOnTime}

-- At the position is consecutive frame number `number` of `count` of the message, whose first frame is at `begun`
-- and holds `in_first` bytes: it fits as that number, is on time, and holds the bytes of the message that come next, as far
-- as the message goes; what follows them is padding of any value (section 9.6.4).
pub record IsConsecutiveFrame (T : List Entry) (d : Channel) (message : List ℕ) (begun : ℕ) (start : FirstFrame)
    (in_first count number position : ℕ) : Type 0 where
  pub next : ConsecutiveFrameAt T d position
  pub fits : FitsAs in_first start.rx_dl start.len count number next.sequence_number next.can_dl
  pub on_time : IsOnTime T d begun position next.entry
  pub holds : (offset : ℕ) → offset < start.rx_dl - 1 → bytes_before in_first start.rx_dl (number - 1) + offset < length message
      → slice_index message (bytes_before in_first start.rx_dl (number - 1) + offset) ≡ slice_index next.entry.frame.bytes (1 + offset)

-- `Holds` of each of the positions and its number, which is `number` for the first
abbrev pub EachNumbered : (ℕ → ℕ → Type 0) → ℕ → List ℕ → Type 0
EachNumbered Holds number [] = ⊤
EachNumbered Holds number (position ∷ positions) = Holds number position × EachNumbered Holds (number + 1) positions

-- At `begun` is a first frame that announces the length of the message, and at the further positions are the
-- consecutive frames, as many as are needed, with the bytes of the message.
pub record IsSegmented (T : List Entry) (d : Channel) (message : List ℕ) (begun : ℕ) (positions : List ℕ) : Type 0 where
  pub begins : FirstFrameAt T d begun
  pub announces : begins.start.len ≡ length message
  pub least : IsConsecutiveCount (bytes_in_first begins.entry.frame.bytes) begins.start.rx_dl begins.start.len (length positions)
  pub consecutive_frames :
      EachNumbered (IsConsecutiveFrame T d message begun begins.start (bytes_in_first begins.entry.frame.bytes) (length positions)) 1 positions
  pub holds : (place : ℕ) → place < bytes_in_first begins.entry.frame.bytes
      → slice_index message place ≡ slice_index begins.entry.frame.bytes (begins.start.rx_dl - bytes_in_first begins.entry.frame.bytes + place)

-- The frames at these positions carry the message on the channel d: one single frame that holds it, or a first frame and
-- its consecutive frames.
pub data Carries (T : List Entry) (d : Channel) (message : List ℕ) : List ℕ → Type 0 where
  unsegmented : {position : ℕ} → SingleFrameAt T d position message → Carries T d message (position ∷ [])
  segmented : {begun : ℕ} {positions : List ℕ} → IsSegmented T d message begun positions → Carries T d message (begun ∷ positions)

-- each is above the one before, and all are at least `least`
abbrev pub IsRisingFrom : ℕ → List ℕ → Type 0
IsRisingFrom least [] = ⊤
IsRisingFrom least (position ∷ positions) = (least ≤ position) × IsRisingFrom (suc position) positions

-- a message and the positions that it is given
pub record Transfer : Type 0 where
  pub channel : Channel
  pub message : List ℕ
  pub positions : List ℕ

-- a message of 1 to `limit` bytes, and rising positions whose frames carry it
pub record IsTransfer (limit : ℕ) (T : List Entry) (transfer : Transfer) : Type 0 where
  pub some : 1 ≤ length transfer.message
  pub fits : length transfer.message ≤ limit
  pub rising : IsRisingFrom 0 transfer.positions
  pub carried : Carries T transfer.channel transfer.message transfer.positions

-- the position is one of these
abbrev pub IsIn : ℕ → List ℕ → Type 0
IsIn position [] = ⊥
IsIn position (other ∷ others) = (position ≡ other) ⊎ IsIn position others

-- the last of the positions, or `position` where there is none
abbrev pub last_or : ℕ → List ℕ → ℕ
last_or position [] = position
last_or position (next ∷ positions) = last_or next positions

-- all positions of the first come before all of the second
abbrev pub AllBefore : List ℕ → List ℕ → Type 0
AllBefore earlier later = (before after : ℕ) → IsIn before earlier → IsIn after later → before < after

-- A message and a later one share no position; on one channel all frames of one come before all of the other; and the
-- later one ends later. Messages on different channels may interleave.
pub record AreApart (earlier later : Transfer) : Type 0 where
  pub shared : (position : ℕ) → IsIn position earlier.positions → IsIn position later.positions → ⊥
  pub apart : earlier.channel ≡ later.channel → AllBefore earlier.positions later.positions ⊎ AllBefore later.positions earlier.positions
  pub order : last_or 0 earlier.positions < last_or 0 later.positions

-- `Holds` of each of the messages and each later one
abbrev pub EachPair : (Transfer → Transfer → Type 0) → List Transfer → Type 0
EachPair Holds [] = ⊤
EachPair Holds (transfer ∷ later) = AllByRecursion (Holds transfer) later × EachPair Holds later

-- one of the messages was given the position
abbrev pub IsGiven : ℕ → List Transfer → Type 0
IsGiven position [] = ⊥
IsGiven position (transfer ∷ transfers) = IsIn position transfer.positions ⊎ IsGiven position transfers

-- a continue frame, a wait frame (section 9.6.5) or a frame without a layout
abbrev pub IsIdle : Result Layout Reason → Type 0
IsIdle (Ok (layout.flow_control Continue)) = ⊤
IsIdle (Ok (layout.flow_control Wait)) = ⊤
IsIdle (Ok (layout.flow_control Overflow)) = ⊥
IsIdle (Ok (layout.single message)) = ⊥
IsIdle (Ok (layout.first len rx_dl bytes)) = ⊥
IsIdle (Ok (layout.consecutive sequence_number can_dl bytes)) = ⊥
IsIdle (Err fault) = ⊤

-- The trace is a recording of the messages: each is given positions whose frames carry it, no position is given twice, and
-- every other position holds a frame that carries nothing.
pub record IsRecording (limit : ℕ) (T : List Entry) (M : List Message) : Type 0 where
  pub transfers : List Transfer
  pub messages : map (λ transfer. (dir_of transfer.channel, transfer.message)) transfers ≡ M
  pub each : AllByRecursion (IsTransfer limit T) transfers
  pub pairs : EachPair AreApart transfers
  pub others : (position : ℕ) (e : Entry) → At T position e → IsGiven position transfers ⊎ IsIdle (layout_in e)

-- the messages that end at one of the first `count` positions
abbrev pub ended_within : ℕ → List Transfer → List Message
ended_within count [] = []
ended_within count (transfer ∷ transfers) =
    if nat_lt (last_or 0 transfer.positions) count then (dir_of transfer.channel, transfer.message) ∷ ended_within count transfers
    else ended_within count transfers
