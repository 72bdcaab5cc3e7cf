-- What the canonical frames say: each has a layout, and is read so.
use Rattle.std.proofs.Common.{◌≡◌, ℕ, ◌-◌, ◌/◌, ◌%◌, ◌<◌, ◌≤◌, ◌^◌, List, [], ◌∷◌, length, take, drop, nat_le, Ok, refl, sym, ap, arith, inl, inr}
use Rattle.std.specs.Prelude.{◌≢◌, replicate}
use Rattle.std.proofs.lemmas.Bool.{leb-true, leb-false, cases_Bool}
use Rattle.can_log.specs.Frame.{FrameValue}
use Rattle.can_log.specs.declared.frame.Id.{Id}
use Rattle.can_log.specs.declared.frame.Kind.TheVariants.{Classic, Remote}
use Rattle.isotp_pdu.specs.declared.Status.TheVariants.{Continue}
use Rattle.isotp_pdu.specs.Layout.{Layout, single, first, consecutive, flow_control, first_byte, least_first, Spells}
use Rattle.isotp_pdu.specs.Reading.{layout_of}
use Rattle.isotp_pdu.proofs.Promises.{layout_is_read}
use Rattle.isotp_segment.specs.CanonicalFrames.{padded, padding, single_control, first_control, consecutive_control, continue_control, room_in_first}
use Rattle.isotp_segment.proofs.Padding.{padded-whole, padded-short}
use Rattle.isotp_segment.proofs.Bytes.{padded-by-place, length-padded}

-- a classic frame of these bytes
abbrev pub classic : Id → List ℕ → FrameValue
classic id bytes = record { id = id; kind = Classic; bytes = bytes }

-- a frame of 8 bytes that spells the layout is read so
reads : (id : Id) (control bytes : List ℕ) (layout : Layout) → Spells (padded control bytes) layout
    → layout_of (classic id (padded control bytes)) ≡ Ok layout
reads id control bytes layout spelled = (layout_is_read (classic id (padded control bytes)) layout).0 (record {
  data_frame = data_frame;
  frame_length = rw (length-padded control bytes) refl;
  spelled = spelled;
}) where
  data_frame : Classic ≢ Remote
  data_frame e = cc

pub layout-single : (id : Id) (message : List ℕ) → 1 ≤ length message → length message ≤ 7
    → layout_of (classic id (padded (single_control (length message)) message)) ≡ Ok (single message)
layout-single id message some short = reads id (single_control (length message)) message (single message) (
  replicate (8 - 1 - length message) padding,
  some,
  inl (
    omega (arith, length-padded (single_control (length message)) message),
    sym (padded-short (single_control (length message)) message (omega arith) (omega arith)),
  ),
)

short_control : ℕ → List ℕ
short_control len = first_byte 1 (len / 2 ^ 8) ∷ (len % 256) ∷ []

escaped_control : ℕ → List ℕ
escaped_control len = first_byte 1 0 ∷ 0 ∷ (len / 2 ^ 24) ∷ (len / 2 ^ 16 % 256) ∷ (len / 2 ^ 8 % 256) ∷ (len % 256) ∷ []

first_short : (id : Id) (message : List ℕ) → 8 ≤ length message → length message ≤ 4095
    → layout_of (classic id (padded (short_control (length message)) message)) ≡ Ok (first (length message) 8 (take 6 message))
unfolding short_control
first_short id message low high =
    let size = length-padded (short_control (length message)) message in
    let least : least_first (length (padded (short_control (length message)) message)) ≡ 8 = ap least_first size in
    reads id (short_control (length message)) message (first (length message) 8 (take 6 message))
    (refl, sym size, inl (omega arith, high, sym (padded-whole (short_control (length message)) message (omega arith) (omega arith))))

first_escaped : (id : Id) (message : List ℕ) → 4095 < length message → length message < 2 ^ 32
    → layout_of (classic id (padded (escaped_control (length message)) message)) ≡ Ok (first (length message) 8 (take 2 message))
unfolding escaped_control
first_escaped id message low high =
    let size = length-padded (escaped_control (length message)) message in
    reads id (escaped_control (length message)) message (first (length message) 8 (take 2 message))
    (refl, sym size, inr (low, high, sym (padded-whole (escaped_control (length message)) message (omega arith) (omega arith))))

pub layout-first : (id : Id) (message : List ℕ) → 8 ≤ length message → length message < 2 ^ 32
    → layout_of (classic id (padded (first_control (length message)) message))
    ≡ Ok (first (length message) 8 (take (room_in_first (length message)) message))
unfolding short_control escaped_control
layout-first id message low high = elim (cases_Bool (nat_le (length message) 4095)) [
  | inl t ↦ rw t (first_short id message low (leb-true (length message) 4095 t))
  | inr t ↦ rw t (first_escaped id message (leb-false (length message) 4095 t) high)
]

pub layout-consecutive : (id : Id) (number : ℕ) (bytes : List ℕ)
    → layout_of (classic id (padded (consecutive_control number) bytes))
    ≡ Ok (consecutive (number % 16) 8 (drop 1 (padded (consecutive_control number) bytes)))
layout-consecutive id number bytes = reads id (consecutive_control number) bytes _
    (omega arith, sym (length-padded (consecutive_control number) bytes), rw (padded-by-place (consecutive_control number) bytes) refl)

pub layout-continue : (id : Id) → layout_of (classic id (padded continue_control [])) ≡ Ok (flow_control Continue)
unfolding padded
layout-continue id = reads id continue_control [] (flow_control Continue) (0, 0, replicate 5 padding, refl)
