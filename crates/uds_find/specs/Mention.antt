-- What a frame says of a service, whatever its identifier: that it asks for the service, or that it answers it.
use Rattle.std.specs.Prelude.{ℕ, ◌==◌, Bool, true, List, [], ◌∷◌, Option, Some, None, Result, Ok, Err, if◌then◌else◌}
use Rattle.can_log.specs.Frame.{FrameValue}
use Rattle.can_log.specs.declared.frame.Id.{Id}
use Rattle.can_log.specs.declared.frame.Id.TheVariants as id
use Rattle.isotp_pdu.specs.Layout.{Layout, single, first, consecutive, flow_control}
use Rattle.isotp_pdu.specs.Reading.{layout_of}
use Rattle.isotp_pdu.specs.declared.PduFault.{PduFault}
use Rattle.uds_message.specs.Message.{is_keep_alive, is_response_pending, is_response_sid, negative_response, service_answered}
use Rattle.uds_find.specs.declared.mention.Mention.{Mention}
use Rattle.uds_find.specs.declared.mention.Mention.TheVariants.{Asks, Answers}
use lib.Dec.{leb}

-- what the rest of a negative response says: it answers the service that it names; response pending says nothing
abbrev pub mention_in_negative_response : List ℕ → Option Mention
mention_in_negative_response [] = None
mention_in_negative_response (service ∷ []) = None
mention_in_negative_response (service ∷ code ∷ more) = if is_response_pending code then None else Some (Answers service)

-- what the first byte of a message and the bytes after it say
abbrev pub mention_by_sid : List ℕ → Option Mention
mention_by_sid [] = None
mention_by_sid (sid ∷ rest) =
    if sid == negative_response then mention_in_negative_response rest
    else if is_response_sid sid then Some (Answers (service_answered sid))
    else Some (Asks sid)

-- what the bytes of a message in its first frame say; the keep-alive says nothing
abbrev pub mention_in : List ℕ → Option Mention
mention_in bytes = if is_keep_alive bytes then None else mention_by_sid bytes

-- what a frame of this layout says: one that begins a message, by the bytes of it that it carries
abbrev pub mention_by_layout : Result Layout PduFault → Option Mention
mention_by_layout (Ok (single bytes)) = mention_in bytes
mention_by_layout (Ok (first len rx_dl bytes)) = mention_in bytes
mention_by_layout (Ok (consecutive sequence_number can_dl bytes)) = None
mention_by_layout (Ok (flow_control status)) = None
mention_by_layout (Err fault) = None

-- an identifier that a bus carries: of 11 bits, as each base one in a frame, or of 29
abbrev pub is_can_identifier : Id → Bool
is_can_identifier (id.Std number) = true
is_can_identifier (id.Ext number) = leb number 0x1FFFFFFF

-- what a frame says of a service
unfoldable pub mention_of : FrameValue → Option Mention
mention_of frame = if is_can_identifier frame.id then mention_by_layout (layout_of frame) else None
