-- What holds of the numbers of each layout, and so of what the function gives.
use Rattle.std.proofs.Common.{◌≡◌, ℕ, ◌<◌, ◌≤◌, List, length, ap, arith, inl, inr}
use Rattle.std.specs.Prelude.{IfOk, Result, Ok, Err}
use Rattle.can_log.specs.Frame.{FrameValue}
use Rattle.isotp_pdu.specs.declared.PduFault.{PduFault}
use Rattle.isotp_pdu.specs.Layout.{Layout, IsSoundLayout, single, first, consecutive, flow_control, SpellsFirst}
use Rattle.isotp_pdu.specs.Reading.{layout_of}
use Rattle.isotp_pdu.specs.Laws.{LayoutIsSound}
use Rattle.isotp_pdu.proofs.Lengths.{can_dl_few, rx_dl_few, rx_dl_long, least_above}
use Rattle.isotp_pdu.proofs.Read.{Reads, read}

carries_less : (bytes : List ℕ) (announced : ℕ) (data_bytes : List ℕ) → 8 ≤ length bytes → length bytes ≤ 64 → SpellsFirst bytes announced data_bytes
    → (length data_bytes < announced) × (length data_bytes < length bytes)
carries_less bytes announced data_bytes long few (inl (least, most, parts)) =
    (omega (arith, ap length parts, least_above (length bytes) long), omega (arith, ap length parts))
carries_less bytes announced data_bytes long few (inr (least, most, parts)) = (omega (arith, ap length parts), omega (arith, ap length parts))

pub layout_is_sound : LayoutIsSound
layout_is_sound frame (single message) has = has.spelled.1
layout_is_sound frame (first announced rx_dl data_bytes) has =
    let long : 8 ≤ rx_dl = rx_dl_long rx_dl has.spelled.0 in
    let size : rx_dl ≡ length frame.bytes = has.spelled.1 in
    let less = carries_less frame.bytes announced data_bytes (omega arith) (can_dl_few (length frame.bytes) has.frame_length) has.spelled.2 in
    record {
      carries_less = less.0;
      in_frame = omega (arith, less.1);
      at_least = long;
      at_most = rx_dl_few rx_dl has.spelled.0;
      one_of_eight = has.spelled.0;
    }
layout_is_sound frame (consecutive number can_dl data_bytes) has = record {
  in_frame = omega (arith, has.spelled.1, ap length has.spelled.2);
  at_most = omega (arith, has.spelled.1, can_dl_few (length frame.bytes) has.frame_length);
  four_bits = has.spelled.0;
}
layout_is_sound frame (flow_control status) has = tt

sound_result : (frame : FrameValue) (r : Result Layout PduFault) → Reads frame r → IfOk r IsSoundLayout
sound_result frame (Ok layout) here = layout_is_sound frame layout here
sound_result frame (Err e) here = tt

pub sound : (frame : FrameValue) → IfOk (layout_of frame) IsSoundLayout
sound frame = sound_result frame (layout_of frame) (read frame)
