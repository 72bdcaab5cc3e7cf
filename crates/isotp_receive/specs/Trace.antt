-- A trace: the frames of the channels in the order of the log, and what each is to the reception of a channel.
use Rattle.std.specs.Prelude.{ℕ, ◌≡◌, Bool, true, false, List, slice_get, if◌then◌else◌, Some, Result, Ok, Err}
use Rattle.can_log.specs.Frame.{FrameValue}
use Rattle.direction.specs.declared.Dir.{Dir}
use Rattle.direction.specs.declared.Dir.TheVariants as dir
use Rattle.isotp_receive.specs.declared.channel.Channel.{Channel}
use Rattle.isotp_receive.specs.declared.event.Reason.{Reason}
use Rattle.isotp_receive.specs.Channels.{same_channel, layout_on}
use Rattle.isotp_pdu.specs.Layout.{Layout}
use Rattle.isotp_pdu.specs.Reading.{layout_of}
use Rattle.isotp_pdu.specs.Layout as layout
use Rattle.isotp_pdu.specs.declared.Status.TheVariants.{Continue, Wait, Overflow}

-- a frame of one of the channels, with its line and its time
pub record Entry : Type 0 where
  pub line : ℕ
  pub micros : ℕ
  pub channel : Channel
  pub frame : FrameValue

-- a frame on this channel, with its line and its time
abbrev pub entry_with : ℕ → ℕ → Channel → FrameValue → Entry
entry_with line micros channel frame = record { line = line; micros = micros; channel = channel; frame = frame }

-- the frame at the position of T is e
abbrev pub At : List Entry → ℕ → Entry → Type 0
At T position e = slice_get T position ≡ Some e

-- a first frame: its line and its time, the length that it announces, its CAN_DL, and the bytes of the message that it carries
pub record FirstFrame : Type 0 where
  pub line : ℕ
  pub micros : ℕ
  pub len : ℕ
  pub rx_dl : ℕ
  pub bytes : List ℕ

-- what a frame is to the reception of a channel
pub data FrameRole : Type 0 where
  -- a single frame on the channel: its message
  single : List ℕ → FrameRole
  -- a first frame on it
  first : FirstFrame → FrameRole
  -- a consecutive frame on it: its sequence number, its CAN_DL, its bytes
  consecutive : ℕ → ℕ → List ℕ → FrameRole
  -- a flow control frame on another channel that says continue or wait
  continue_or_wait : FrameRole
  -- a flow control frame on another channel that says overflow
  overflow : FrameRole
  -- any other frame
  no_part : FrameRole

-- What the frame says on its channel, or why it is dropped.
unfoldable pub layout_in : Entry → Result Layout Reason
layout_in e = layout_on e.channel (layout_of e.frame)

-- the two directions are one
abbrev pub same_direction : Dir → Dir → Bool
same_direction dir.Tester dir.Tester = true
same_direction dir.Unit dir.Unit = true
same_direction dir.Tester dir.Unit = false
same_direction dir.Unit dir.Tester = false

-- to the channel that it was sent on (ISO 15765-2, section 9.6)
abbrev pub own_role : ℕ → ℕ → Result Layout Reason → FrameRole
own_role line micros (Ok (layout.single message)) = single message
own_role line micros (Ok (layout.first len rx_dl bytes)) = first (record { line = line; micros = micros; len = len; rx_dl = rx_dl; bytes = bytes })
own_role line micros (Ok (layout.consecutive sequence_number can_dl bytes)) = consecutive sequence_number can_dl bytes
own_role line micros (Ok (layout.flow_control status)) = no_part
own_role line micros (Err fault) = no_part

-- to any other: flow control is all that matters
abbrev pub other_role : Result Layout Reason → FrameRole
other_role (Ok (layout.flow_control Continue)) = continue_or_wait
other_role (Ok (layout.flow_control Wait)) = continue_or_wait
other_role (Ok (layout.flow_control Overflow)) = overflow
other_role (Ok (layout.single message)) = no_part
other_role (Ok (layout.first len rx_dl bytes)) = no_part
other_role (Ok (layout.consecutive sequence_number can_dl bytes)) = no_part
other_role (Err fault) = no_part

-- what the frame e is to the reception of the channel d
unfoldable pub role : Channel → Entry → FrameRole
role d e = if same_channel d e.channel then own_role e.line e.micros (layout_in e) else other_role (layout_in e)

-- at the position of T stands a single frame on d that holds the message
pub record SingleFrameAt (T : List Entry) (d : Channel) (position : ℕ) (message : List ℕ) : Type 0 where
  pub entry : Entry
  pub stands : At T position entry
  pub kind : role d entry ≡ single message

-- at the position of T stands a first frame on d
pub record FirstFrameAt (T : List Entry) (d : Channel) (position : ℕ) : Type 0 where
  pub entry : Entry
  pub stands : At T position entry
  pub start : FirstFrame
  pub kind : role d entry ≡ first start

-- at the position of T stands a consecutive frame on d
pub record ConsecutiveFrameAt (T : List Entry) (d : Channel) (position : ℕ) : Type 0 where
  pub entry : Entry
  pub stands : At T position entry
  pub sequence_number : ℕ
  pub can_dl : ℕ
  pub bytes : List ℕ
  pub kind : role d entry ≡ consecutive sequence_number can_dl bytes
