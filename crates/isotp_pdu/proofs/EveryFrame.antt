-- The laws of every frame, and what they make of the function's result.
use Rattle.std.proofs.Common.{◌≡◌, Result, Ok, Err, sym, ◌∙◌, subst, ap, inl, inr}
use Rattle.std.specs.Prelude.{◌⊎◌, ◌↔◌, IfOk}
use Rattle.can_log.specs.Frame.{FrameValue}
use Rattle.isotp_pdu.specs.declared.PduFault.{PduFault}
use Rattle.isotp_pdu.specs.Layout.{Layout, HasLayout, IsSoundLayout}
use Rattle.isotp_pdu.specs.Reading.{layout_of}
use Rattle.isotp_pdu.specs.Fault.{IsFault}
use Rattle.isotp_pdu.specs.Laws.{LayoutIsRead, FaultIsRead, AtMostOneLayout, AtMostOneFault, LayoutOrFault, LayoutHasNoFault}
use Rattle.isotp_pdu.proofs.Unique.{at_most_one}
pub use Rattle.isotp_pdu.proofs.Sound.{sound, layout_is_sound}
use Rattle.isotp_pdu.proofs.Precedence.{at_most_one_fault, has_no_fault}
use Rattle.isotp_pdu.proofs.Read.{Reads, read}

pub one_layout : AtMostOneLayout
one_layout frame a b left right = at_most_one frame.bytes a b left.spelled right.spelled

pub one_fault : AtMostOneFault
one_fault = at_most_one_fault

pub no_fault : LayoutHasNoFault
no_fault frame layout e has = has_no_fault frame layout has e

reads : (frame : FrameValue) (r : Result Layout PduFault) → layout_of frame ≡ r → Reads frame r
reads frame r same = subst (Reads frame) same (read frame)

read_layout : (frame : FrameValue) (layout : Layout) (r : Result Layout PduFault) → Reads frame r → HasLayout frame layout → r ≡ Ok layout
read_layout frame layout (Ok found) here has = ap Ok (one_layout frame found layout here has)
read_layout frame layout (Err e) here has = absurd (no_fault frame layout e has here.applies)

read_fault : (frame : FrameValue) (e : PduFault) (r : Result Layout PduFault) → Reads frame r → IsFault e frame → r ≡ Err e
read_fault frame e (Ok found) here is_fault = absurd (no_fault frame found e here is_fault.applies)
read_fault frame e (Err other) here is_fault = ap Err (one_fault frame other e here is_fault)

pub layout_is_read : LayoutIsRead
layout_is_read frame layout = (read_layout frame layout (layout_of frame) (read frame), reads frame (Ok layout))

pub fault_is_read : FaultIsRead
fault_is_read frame e = (read_fault frame e (layout_of frame) (read frame), reads frame (Err e))

either : (frame : FrameValue) (r : Result Layout PduFault) → Reads frame r → ((layout : Layout) × HasLayout frame layout) ⊎ ((e : PduFault) × IsFault e frame)
either frame (Ok layout) here = inl (layout, here)
either frame (Err e) here = inr (e, here)

pub layout_or_fault : LayoutOrFault
layout_or_fault frame = either frame (layout_of frame) (read frame)

-- the laws, of a result that is the function's
module _ (frame : FrameValue) (r : Result Layout PduFault) (same : r ≡ layout_of frame) where
  pub read_layouts : (layout : Layout) → (r ≡ Ok layout) ↔ HasLayout frame layout
  read_layouts layout = (let law = layout_is_read frame layout in (λ is_it. law.1 (sym same ∙ is_it), λ has. same ∙ law.0 has))

  pub read_faults : (e : PduFault) → (r ≡ Err e) ↔ IsFault e frame
  read_faults e = (let law = fault_is_read frame e in (λ is_it. law.1 (sym same ∙ is_it), λ has. same ∙ law.0 has))

  pub read_soundly : IfOk r IsSoundLayout
  read_soundly = subst (λ found. IfOk found IsSoundLayout) (sym same) (sound frame)
