-- The two sides, and what a frame is that one of them sends to the other alone.
use Rattle.std.proofs.Common.{◌≡◌, ℕ, true, false, List, refl}
use Rattle.can_log.specs.Frame.{FrameValue}
use Rattle.direction.specs.Dir.{other_direction}
use Rattle.direction.specs.declared.Dir.{Dir}
use Rattle.direction.specs.declared.Dir.TheVariants.{Tester, Unit}
use Rattle.isotp_pdu.specs.Reading.{layout_of}
use Rattle.isotp_receive.specs.declared.TheConstants.{MESSAGE_LIMIT}
use Rattle.isotp_receive.specs.declared.channel.Channel.{Channel}
use Rattle.isotp_receive.specs.Channels.{channel_of, to_one}
use Rattle.isotp_receive.specs.StandingReception.{stands}
use Rattle.isotp_receive.specs.Trace.{Entry, role, own_role, other_role, layout_in, same_direction}
use Rattle.isotp_receive.specs.Verdict.{on_layout, verdict}
use Rattle.isotp_receive.proofs.Promises.{same-self, said_on}

-- a side is itself
pub same_side : (d : Dir) → same_direction d d ≡ true
same_side Tester = refl
same_side Unit = refl

-- and the other one is another
pub side-apart : (d : Dir) → same_direction (other_direction d) d ≡ false
side-apart Tester = refl
side-apart Unit = refl

pub other-apart : (d : Dir) → same_direction d (other_direction d) ≡ false
other-apart Tester = refl
other-apart Unit = refl

-- a frame of this line, time, channel and content
abbrev pub entry_at : ℕ → ℕ → Channel → FrameValue → Entry
entry_at line micros channel frame = record { line = line; micros = micros; channel = channel; frame = frame }

-- what a frame that a side sends to the other alone is to its own receptions
pub role_own : (d : Dir) (line micros : ℕ) (frame : FrameValue)
    → role (channel_of d) (entry_at line micros (channel_of d) frame) ≡ own_role line micros (to_one (layout_of frame))
unfolding role layout_in
role_own d line micros frame = rw (same-self (channel_of d), said_on d) refl

-- what it is to the other ones
pub role_other : (d : Dir) (line micros : ℕ) (frame : FrameValue)
    → role (channel_of (other_direction d)) (entry_at line micros (channel_of d) frame) ≡ other_role (to_one (layout_of frame))
unfolding role layout_in
role_other Tester line micros frame = refl
role_other Unit line micros frame = refl

-- what it does
pub verdict_of_side : (d : Dir) (T : List Entry) (line micros : ℕ) (frame : FrameValue)
    → verdict MESSAGE_LIMIT T (entry_at line micros (channel_of d) frame)
    ≡ on_layout MESSAGE_LIMIT d (stands MESSAGE_LIMIT (channel_of d) T) (stands MESSAGE_LIMIT (channel_of (other_direction d)) T) micros
    (to_one (layout_of frame))
unfolding verdict layout_in
verdict_of_side Tester T line micros frame = refl
verdict_of_side Unit T line micros frame = refl
