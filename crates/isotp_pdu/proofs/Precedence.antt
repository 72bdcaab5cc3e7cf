-- Which of the faults that apply to a frame has the lowest number.
use Rattle.std.proofs.Common.{◌≡◌, ℕ, ◌+◌, ◌<◌, ◌≤◌, ◌==◌, List, [], ◌∷◌, length, refl, sym, subst, ap, arith}
use Rattle.std.specs.Prelude.{◌≢◌, IsTrue, if◌then◌else◌}
use Rattle.std.proofs.lemmas.Bool.{both_ways}
use Rattle.can_log.specs.Frame.{FrameValue}
use Rattle.can_log.specs.declared.frame.Kind.TheVariants as kind
use Rattle.isotp_pdu.specs.declared.PduFault.{PduFault}
use Rattle.isotp_pdu.specs.declared.PduFault.TheVariants as fault
use Rattle.isotp_pdu.specs.Layout.{Layout, single, first, consecutive, flow_control, Spells, HasLayout, is_can_dl, status_number}
use Rattle.isotp_pdu.specs.Fault.{precedence, Begins, Applies, IsFault}
use Rattle.isotp_pdu.proofs.FirstByte.{kind_number, status_few, begins, begins_once}

fault_numbered : ℕ → PduFault
fault_numbered n =
    if n == 1 then fault.Remote
    else if n == 2 then fault.FrameLength
    else if n == 3 then fault.Empty
    else if n == 4 then fault.UnknownKind
    else if n == 5 then fault.SingleLength
    else if n == 6 then fault.FirstLength
    else if n == 7 then fault.FlowShort
    else fault.FlowStatus

numbered : (e : PduFault) → fault_numbered (precedence e) ≡ e
unfolding fault_numbered
numbered fault.Remote = refl
numbered fault.FrameLength = refl
numbered fault.Empty = refl
numbered fault.UnknownKind = refl
numbered fault.SingleLength = refl
numbered fault.FirstLength = refl
numbered fault.FlowShort = refl
numbered fault.FlowStatus = refl

pub same_fault : (a b : PduFault) → precedence a ≡ precedence b → a ≡ b
same_fault a b same = (let left = numbered a in let right = numbered b in cc)

pub at_most_one_fault : (frame : FrameValue) (a b : PduFault) → IsFault a frame → IsFault b frame → a ≡ b
at_most_one_fault frame a b left right = (let up = left.lowest b right.applies in let down = right.lowest a left.applies in same_fault a b (omega arith))

-- each fault that applies is above one that doesn't, and not below it
passes : (frame : FrameValue) (e g : PduFault) → precedence e ≤ precedence g → ¬ Applies e frame → Applies g frame → precedence e + 1 ≤ precedence g
passes frame e g most absent here =
    let other : precedence e ≢ precedence g = λ same. absent (subst (λ f. Applies f frame) (sym (same_fault e g same)) here) in
    omega arith

pub at_least_one : (g : PduFault) → 1 ≤ precedence g
at_least_one fault.Remote = omega arith
at_least_one fault.FrameLength = omega arith
at_least_one fault.Empty = omega arith
at_least_one fault.UnknownKind = omega arith
at_least_one fault.SingleLength = omega arith
at_least_one fault.FirstLength = omega arith
at_least_one fault.FlowShort = omega arith
at_least_one fault.FlowStatus = omega arith

pub from_length : (frame : FrameValue) → frame.kind ≢ kind.Remote → (g : PduFault) → Applies g frame → 2 ≤ precedence g
from_length frame data_frame g here = passes frame fault.Remote g (at_least_one g) data_frame here

pub from_empty : (frame : FrameValue) → frame.kind ≢ kind.Remote → IsTrue (is_can_dl (length frame.bytes)) → (g : PduFault) → Applies g frame → 3 ≤ precedence g
from_empty frame data_frame fits g here =
    passes frame fault.FrameLength g (from_length frame data_frame g here) (λ applied. both_ways (is_can_dl (length frame.bytes)) applied fits) here

-- what is known of a frame that has a first byte
pub record IsBegun (frame : FrameValue) (number low : ℕ) : Type 0 where
  pub data_frame : frame.kind ≢ kind.Remote
  pub fits : IsTrue (is_can_dl (length frame.bytes))
  pub begun : Begins number low frame.bytes

not_empty : (frame : FrameValue) (k l : ℕ) → Begins k l frame.bytes → ¬ (frame.bytes ≡ [])
not_empty frame k l b empty = (let parts = b.parts in cc)

pub from_kind : (frame : FrameValue) (k l : ℕ) → IsBegun frame k l → (g : PduFault) → Applies g frame → 4 ≤ precedence g
from_kind frame k l h g here =
    passes frame fault.Empty g (from_empty frame h.data_frame h.fits g here) (not_empty frame k l h.begun) here

pub from_single : (frame : FrameValue) (k l : ℕ) → k ≤ 3 → IsBegun frame k l → (g : PduFault) → Applies g frame → 5 ≤ precedence g
from_single frame k l few h g here =
    passes frame fault.UnknownKind g (from_kind frame k l h g here)
    (λ applied. let same = begins_once frame.bytes h.begun applied.3 in absurd (omega (arith, applied.2))) here

pub from_first : (frame : FrameValue) (k l : ℕ) → 1 ≤ k → k ≤ 3 → IsBegun frame k l → (g : PduFault) → Applies g frame → 6 ≤ precedence g
from_first frame k l some few h g here =
    passes frame fault.SingleLength g (from_single frame k l few h g here)
    (λ applied. let same = begins_once frame.bytes h.begun applied.1 in absurd (omega arith)) here

pub from_flow : (frame : FrameValue) (k l : ℕ) → 2 ≤ k → k ≤ 3 → IsBegun frame k l → (g : PduFault) → Applies g frame → 7 ≤ precedence g
from_flow frame k l some few h g here =
    passes frame fault.FirstLength g (from_first frame k l (omega arith) few h g here)
    (λ applied. let same = begins_once frame.bytes h.begun applied.1 in absurd (omega arith)) here

pub from_status : (frame : FrameValue) (l : ℕ) → 3 ≤ length frame.bytes → IsBegun frame 3 l → (g : PduFault) → Applies g frame → 8 ≤ precedence g
from_status frame l long h g here =
    passes frame fault.FlowShort g (from_flow frame 3 l (omega arith) (omega arith) h g here) (λ applied. absurd (omega (arith, applied.2))) here

known_kind : (layout : Layout) → kind_number layout ≤ 3
known_kind (single message) = omega arith
known_kind (first announced rx_dl data_bytes) = omega arith
known_kind (consecutive number can_dl data_bytes) = omega arith
known_kind (flow_control status) = omega arith

layout_of_kind_0 : (bytes : List ℕ) (layout : Layout) → kind_number layout ≡ 0 → Spells bytes layout → (message : List ℕ) × Spells bytes (single message)
layout_of_kind_0 bytes (single message) _ spelled = (message, spelled)
layout_of_kind_0 bytes (first announced rx_dl data_bytes) other spelled = absurd (omega arith)
layout_of_kind_0 bytes (consecutive number can_dl data_bytes) other spelled = absurd (omega arith)
layout_of_kind_0 bytes (flow_control status) other spelled = absurd (omega arith)

layout_of_kind_1 : (bytes : List ℕ) (layout : Layout) → kind_number layout ≡ 1 → Spells bytes layout
    → (announced : ℕ) × (rx_dl : ℕ) × (data_bytes : List ℕ) × Spells bytes (first announced rx_dl data_bytes)
layout_of_kind_1 bytes (first announced rx_dl data_bytes) _ spelled = (announced, rx_dl, data_bytes, spelled)
layout_of_kind_1 bytes (single message) other spelled = absurd (omega arith)
layout_of_kind_1 bytes (consecutive number can_dl data_bytes) other spelled = absurd (omega arith)
layout_of_kind_1 bytes (flow_control status) other spelled = absurd (omega arith)

layout_of_kind_3 : (bytes : List ℕ) (layout : Layout) → kind_number layout ≡ 3 → Spells bytes layout
    → (l : ℕ) × Begins 3 l bytes × (l < 3) × (3 ≤ length bytes)
layout_of_kind_3 bytes (flow_control s) _ (block_size, separation_time, padding, parts) = (
  status_number s,
  record { rest = block_size ∷ separation_time ∷ padding; four_bits = omega (arith, status_few s); parts = parts },
  status_few s,
  omega (arith, ap length parts),
)
layout_of_kind_3 bytes (single message) other spelled = absurd (omega arith)
layout_of_kind_3 bytes (first announced rx_dl data_bytes) other spelled = absurd (omega arith)
layout_of_kind_3 bytes (consecutive number can_dl data_bytes) other spelled = absurd (omega arith)

-- no fault applies to a frame that has a layout
module _ (frame : FrameValue) (layout : Layout) (has : HasLayout frame layout) where
  kind_is : (k l : ℕ) → Begins k l frame.bytes → kind_number layout ≡ k
  kind_is k l b = (begins_once frame.bytes (begins frame.bytes layout has.spelled).1 b).0

  pub has_no_fault : (e : PduFault) → ¬ Applies e frame
  has_no_fault fault.Remote applied = has.data_frame applied
  has_no_fault fault.FrameLength applied = both_ways (is_can_dl (length frame.bytes)) applied has.frame_length
  has_no_fault fault.Empty applied = (let parts = (begins frame.bytes layout has.spelled).1.parts in cc)
  has_no_fault fault.UnknownKind applied = (let same = kind_is _ _ applied.3 in let few = known_kind layout in absurd (omega (arith, applied.2)))
  has_no_fault fault.SingleLength applied = (let found = layout_of_kind_0 frame.bytes layout (kind_is _ _ applied.1) has.spelled in applied.2 found.0 found.1)
  has_no_fault fault.FirstLength applied = (let found = layout_of_kind_1 frame.bytes layout (kind_is _ _ applied.1) has.spelled in applied.2 found.0 found.1 found.2 found.3)
  has_no_fault fault.FlowShort applied = (let found = layout_of_kind_3 frame.bytes layout (kind_is _ _ applied.1) has.spelled in absurd (omega (arith, found.3, applied.2)))
  has_no_fault fault.FlowStatus applied =
      (let found = layout_of_kind_3 frame.bytes layout (kind_is _ _ applied.1) has.spelled in
      let same = begins_once frame.bytes found.1 applied.1 in
      absurd (omega (arith, found.2, applied.2)))
