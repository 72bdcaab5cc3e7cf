-- The reading of a frame as a function, for contracts to cite: the layout that a frame has, or else the lowest fault that
-- applies. It makes the tests that a reader makes. The laws `LayoutIsRead` and `FaultIsRead` say what they amount to:
-- they fix it by the relations `HasLayout` and `IsFault`.
use Rattle.std.specs.Prelude.{ℕ, ◌+◌, ◌*◌, ◌/◌, ◌%◌, Bool, ◌&&◌, ◌==◌, nat_lt, nat_le, List, [], ◌∷◌, length, drop, slice_index, slice_range, Result, Ok, Err, true, if◌then◌else◌}
use Rattle.can_log.specs.Frame.{FrameValue}
use Rattle.can_log.specs.declared.frame.Kind.{Kind}
use Rattle.can_log.specs.declared.frame.Kind.TheVariants as kind
use Rattle.isotp_pdu.specs.declared.Status.TheVariants as status
use Rattle.isotp_pdu.specs.declared.PduFault.{PduFault}
use Rattle.isotp_pdu.specs.declared.PduFault.TheVariants as fault
use Rattle.isotp_pdu.specs.Layout.{Layout, single, first, consecutive, flow_control, is_can_dl, least_first}

-- a single frame: its length, and the message where the length is one
abbrev pub single_of : List ℕ → Result Layout PduFault
single_of bytes =
    if nat_le (length bytes) 8 then
    (let len = slice_index bytes 0 % 16 in
    if nat_le 1 len && nat_le (len + 1) (length bytes) then Ok (single (slice_range bytes 1 (len + 1))) else Err fault.SingleLength)
    else
    (let len = slice_index bytes 1 in
    if (slice_index bytes 0 == 0) && (nat_le 1 len && nat_le (len + 2) (length bytes)) then Ok (single (slice_range bytes 2 (len + 2)))
    else Err fault.SingleLength)

-- Each number is that of a byte. The numbers in a frame always are; a list may hold others, and spells no length by them.
abbrev pub are_bytes : List ℕ → Bool
are_bytes [] = true
are_bytes (b ∷ bytes) = nat_lt b 256 && are_bytes bytes

-- a first frame whose length is in 12 bits
abbrev pub short_first_of : List ℕ → Result Layout PduFault
short_first_of bytes =
    let announced = slice_index bytes 0 % 16 * 256 + slice_index bytes 1 in
    if nat_le (least_first (length bytes)) announced && are_bytes (slice_range bytes 1 2) then Ok (first announced (length bytes) (drop 2 bytes))
    else Err fault.FirstLength

-- a first frame whose length is in 32 bits
abbrev pub escaped_first_of : List ℕ → Result Layout PduFault
escaped_first_of bytes =
    let announced = ((slice_index bytes 2 * 256 + slice_index bytes 3) * 256 + slice_index bytes 4) * 256 + slice_index bytes 5 in
    if nat_lt 4095 announced && are_bytes (slice_range bytes 2 6) then Ok (first announced (length bytes) (drop 6 bytes))
    else Err fault.FirstLength

-- a first frame
abbrev pub first_of : List ℕ → Result Layout PduFault
first_of bytes =
    if nat_lt (length bytes) 8 then Err fault.FirstLength
    else if (slice_index bytes 0 % 16 == 0) && (slice_index bytes 1 == 0) then escaped_first_of bytes
    else short_first_of bytes

-- the flow status in the low bits of the first byte
abbrev pub flow_status_of : ℕ → Result Layout PduFault
flow_status_of low =
    if low == 0 then Ok (flow_control status.Continue)
    else if low == 1 then Ok (flow_control status.Wait)
    else if low == 2 then Ok (flow_control status.Overflow)
    else Err fault.FlowStatus

-- flow control
abbrev pub flow_of : List ℕ → Result Layout PduFault
flow_of bytes = if nat_lt (length bytes) 3 then Err fault.FlowShort else flow_status_of (slice_index bytes 0 % 16)

-- a frame of a kind
abbrev pub of_kind : ℕ → List ℕ → Result Layout PduFault
of_kind kind bytes =
    if kind == 0 then single_of bytes
    else if kind == 1 then first_of bytes
    else if kind == 2 then Ok (consecutive (slice_index bytes 0 % 16) (length bytes) (drop 1 bytes))
    else if kind == 3 then flow_of bytes
    else Err fault.UnknownKind

-- a data frame
abbrev pub of_bytes : List ℕ → Result Layout PduFault
of_bytes bytes =
    if is_can_dl (length bytes) then (if length bytes == 0 then Err fault.Empty else of_kind (slice_index bytes 0 / 16) bytes)
    else Err fault.FrameLength

-- a frame of any kind
abbrev pub of_frame : Kind → List ℕ → Result Layout PduFault
of_frame kind.Remote bytes = Err fault.Remote
of_frame kind.Classic bytes = of_bytes bytes
of_frame kind.Fd bytes = of_bytes bytes

-- the layout that the frame has, or the lowest fault that applies
unfoldable pub layout_of : FrameValue → Result Layout PduFault
layout_of frame = of_frame frame.kind frame.bytes
