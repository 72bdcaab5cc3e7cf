-- The three channels of a session (ISO 15765-2, section 5.3.4): each side has one on which it sends to the other alone, and the
-- tester has one more on which it asks all units. On that one every message is one single frame.
use Rattle.std.specs.Prelude.{Bool, true, false, Result, Ok, Err}
use Rattle.direction.specs.declared.Dir.{Dir}
use Rattle.direction.specs.declared.Dir.TheVariants as dir
use Rattle.isotp_pdu.specs.Layout.{Layout}
use Rattle.isotp_pdu.specs.Layout as layout
use Rattle.isotp_pdu.specs.declared.PduFault.{PduFault}
use Rattle.isotp_receive.specs.declared.event.Reason.{Reason}
use Rattle.isotp_receive.specs.declared.event.Reason.TheVariants as reason
use Rattle.isotp_receive.specs.declared.channel.Channel.{Channel}
use Rattle.isotp_receive.specs.declared.channel.Channel.TheVariants.{Tester, Unit, Functional}

-- the side that sends on a channel
abbrev pub dir_of : Channel → Dir
dir_of Tester = dir.Tester
dir_of Unit = dir.Unit
dir_of Functional = dir.Tester

-- the channel on which a side sends to the other alone
abbrev pub channel_of : Dir → Channel
channel_of dir.Tester = Tester
channel_of dir.Unit = Unit

-- the channel on which the other side answers what is sent on a channel
abbrev pub other_channel : Channel → Channel
other_channel Tester = Unit
other_channel Unit = Tester
other_channel Functional = Unit

-- the two channels are one
abbrev pub same_channel : Channel → Channel → Bool
same_channel Tester Tester = true
same_channel Tester Unit = false
same_channel Tester Functional = false
same_channel Unit Tester = false
same_channel Unit Unit = true
same_channel Unit Functional = false
same_channel Functional Tester = false
same_channel Functional Unit = false
same_channel Functional Functional = true

-- the channel is the one on which the tester asks all units
abbrev pub is_functional : Channel → Bool
is_functional Tester = false
is_functional Unit = false
is_functional Functional = true

-- what a frame says to one unit, or why it is dropped
abbrev pub to_one : Result Layout PduFault → Result Layout Reason
to_one (Ok said) = Ok said
to_one (Err fault) = Err (reason.Pdu fault)

-- what a frame says to all units, or why it is dropped: nothing but a single frame is sent to all
abbrev pub to_all : Result Layout PduFault → Result Layout Reason
to_all (Ok (layout.single message)) = Ok (layout.single message)
to_all (Ok (layout.first len rx_dl bytes)) = Err reason.FunctionalNotSingle
to_all (Ok (layout.consecutive sequence_number can_dl bytes)) = Err reason.FunctionalNotSingle
to_all (Ok (layout.flow_control status)) = Err reason.FunctionalNotSingle
to_all (Err fault) = Err (reason.Pdu fault)

-- what a frame on the channel says
abbrev pub layout_on : Channel → Result Layout PduFault → Result Layout Reason
layout_on Tester read = to_one read
layout_on Unit read = to_one read
layout_on Functional read = to_all read
