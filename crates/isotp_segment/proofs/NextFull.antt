-- A full consecutive frame that is next: which number it has, who sends it, and that the message fills it.
use Rattle.std.proofs.Common.{◌≡◌, ◌+◌, ◌-◌, ◌/◌, ◌%◌, ◌^◌, ◌<◌, ◌≤◌, ◌∙◌, ℕ, List, [], ◌∷◌, length, drop, nat_le, get_or, sym, subst, ap, arith, inl, inr}
use Rattle.std.specs.Prelude.{◌⊎◌, Some, slice_get, slice_index}
use Rattle.std.proofs.lemmas.Bool.{cases_lt, cases_Bool, leb-true}
use Rattle.std.proofs.lemmas.List.{get_or_past, length-drop}
use Rattle.direction.specs.Dir.{other_direction}
use Rattle.direction.specs.declared.Dir.{Dir}
use Rattle.isotp_pdu.specs.Layout.{first_byte}
use Rattle.isotp_segment.specs.FullFrames.{FullFrameIsNext}
use Rattle.isotp_segment.specs.CanonicalFrames.{padded, padding, first_control, consecutive_control, place_of, frame_count, canonical_frame, canonical_frames}
use Rattle.isotp_segment.proofs.Bytes.{padded-by-place}
use Rattle.isotp_segment.proofs.Counts.{total-short, total-long, room_in_first-few}
use Rattle.isotp_segment.proofs.Frames.{drop_canonical_frames, drop_at_end, frame-single, frame-first, frame-continue, frame-consecutive}

-- the bytes of the first of these frames, and its sender
abbrev bytes_of : List (Dir × List ℕ) → List ℕ
bytes_of [] = []
bytes_of (frame ∷ frames) = frame.1

abbrev sender_of : Dir → List (Dir × List ℕ) → Dir
sender_of otherwise [] = otherwise
sender_of otherwise (frame ∷ frames) = frame.0

-- a frame begins with its control information
begins : (b : ℕ) (control bytes : List ℕ) → slice_index (padded (b ∷ control) bytes) 0 ≡ b
begins b control bytes = ap (λ l. get_or l 0 0) (padded-by-place (b ∷ control) bytes)

-- and it ends in padding, where the bytes after one control byte are too few
ends : (b : ℕ) (bytes : List ℕ) → length bytes < 7 → slice_get (padded (b ∷ []) bytes) 7 ≡ Some padding
ends b bytes few =
    ap (λ l. slice_get l 7) (padded-by-place (b ∷ []) bytes) ∙ ap (λ n. Some n) (get_or_past (b ∷ bytes) 7 padding (omega arith))

-- a frame of another kind is none
other_kind : (sender direction : Dir) (b : ℕ) (control bytes : List ℕ) (later : List (Dir × List ℕ)) → (b < 32) ⊎ (48 ≤ b)
    → FullFrameIsNext sender ((direction, padded (b ∷ control) bytes) ∷ later) → ⊥
other_kind sender direction b control bytes later other full =
    let first : b ≡ first_byte 2 (full.number % 16) = sym (begins b control bytes) ∙ ap (λ l. slice_index (bytes_of l) 0) full.next in
    elim other [ inl low ↦ omega arith | inr high ↦ omega arith ]

not_first : (sender direction : Dir) (message : List ℕ) (later : List (Dir × List ℕ))
    → FullFrameIsNext sender ((direction, padded (first_control (length message)) message) ∷ later) → ⊥
not_first sender direction message later = elim (cases_Bool (nat_le (length message) 4095)) [
  | inl t ↦
      (let short = leb-true (length message) 4095 t in
      rw t (other_kind sender direction (first_byte 1 (length message / 2 ^ 8)) _ message later (inl (omega arith))))
  | inr t ↦ rw t (other_kind sender direction (first_byte 1 0) _ message later (inl (omega arith)))
]

not_at_0 : (sender direction : Dir) (message : List ℕ) (later : List (Dir × List ℕ))
    → FullFrameIsNext sender (canonical_frame direction message 0 ∷ later) → ⊥
not_at_0 sender direction message later full = elim (cases_lt 7 (length message)) [
  | inl long ↦ not_first sender direction message later (subst (λ f. FullFrameIsNext sender (f ∷ later)) (frame-first direction message long) full)
  | inr short ↦ other_kind sender direction (first_byte 0 (length message)) [] message later (inl (omega arith))
      (subst (λ f. FullFrameIsNext sender (f ∷ later)) (frame-single direction message 0 short) full)
]

not_at_1 : (sender direction : Dir) (message : List ℕ) (later : List (Dir × List ℕ)) → 7 < length message
    → FullFrameIsNext sender (canonical_frame direction message 1 ∷ later) → ⊥
not_at_1 sender direction message later long full =
    other_kind sender (other_direction direction) (first_byte 3 0) (0 ∷ 0 ∷ []) [] later (inr (omega arith))
    (subst (λ f. FullFrameIsNext sender (f ∷ later)) (frame-continue direction message long) full)

-- one behind which no other comes has seven bytes of its message
fills : (sender direction : Dir) (number : ℕ) (bytes : List ℕ) (later : List (Dir × List ℕ)) → length later ≡ 0
    → FullFrameIsNext sender ((direction, padded (consecutive_control number) bytes) ∷ later) → 7 ≤ length bytes
fills sender direction number bytes later last full = elim (cases_lt (length bytes) 7) [
  | inl few ↦
      (let none = ap (λ l. length (drop 1 l)) full.next in
      let in_padding = sym (ap (λ l. slice_get (bytes_of l) 7) full.next) ∙ ends (first_byte 2 (number % 16)) bytes few in
      elim full.full [ inl more ↦ absurd (omega arith) | inr other ↦ absurd (other in_padding) ])
  | inr enough ↦ enough
]

-- what is known of frame `number`, where it is one
pub record IsFullAt (sender direction : Dir) (message : List ℕ) (number : ℕ) : Type 0 where
  pub left : number < frame_count (length message)
  pub consecutive : 2 ≤ number
  pub same : sender ≡ direction
  pub within : place_of (length message) (number - 1) + 7 ≤ length message

is_left : (limit : ℕ) (sender direction : Dir) (message : List ℕ) (number : ℕ) → 1 ≤ length message → length message ≤ limit
    → FullFrameIsNext sender (drop number (canonical_frames limit direction message)) → number < frame_count (length message)
is_left limit sender direction message number some high full = elim (cases_lt number (frame_count (length message))) [
  | inl below ↦ below
  | inr above ↦ (let none = ap length (sym (drop_at_end limit direction message number above some high) ∙ full.next) in absurd (omega arith))
]

pub is_full_at : (limit : ℕ) (sender direction : Dir) (message : List ℕ) (number : ℕ) → 1 ≤ length message → length message ≤ limit
    → FullFrameIsNext sender (drop number (canonical_frames limit direction message)) → IsFullAt sender direction message number
is_full_at limit sender direction message number some high full = record {
  left = left;
  consecutive = consecutive;
  same = sym (ap (sender_of sender) spelled.next);
  within = within;
} where
  later : List (Dir × List ℕ)
  later = drop (number + 1) (canonical_frames limit direction message)

  left : number < frame_count (length message)
  left = is_left limit sender direction message number some high full

  here : FullFrameIsNext sender (canonical_frame direction message number ∷ later)
  here = subst (FullFrameIsNext sender) (drop_canonical_frames limit direction message number left some high) full

  at : (n : ℕ) → number ≡ n → FullFrameIsNext sender (canonical_frame direction message n ∷ later)
  at n is = subst (λ k. FullFrameIsNext sender (canonical_frame direction message k ∷ later)) is here

  from_1 : 1 ≤ number
  from_1 = elim (cases_lt number 1) [
    | inl none ↦ absurd (not_at_0 sender direction message later (at 0 (omega arith)))
    | inr one ↦ one
  ]

  long : 7 < length message
  long = elim (cases_lt 7 (length message)) [
    | inl more ↦ more
    | inr short ↦ (let one = total-short (length message) short in absurd (omega (arith, left, from_1)))
  ]

  consecutive : 2 ≤ number
  consecutive = elim (cases_lt number 2) [
    | inl before ↦ absurd (not_at_1 sender direction message later long (at 1 (omega (arith, from_1))))
    | inr more ↦ more
  ]

  bytes : List ℕ
  bytes = drop (place_of (length message) (number - 1)) message

  spelled : FullFrameIsNext sender ((direction, padded (consecutive_control (number - 1)) bytes) ∷ later)
  spelled = subst (λ f. FullFrameIsNext sender (f ∷ later)) (frame-consecutive direction message (number - 1) long (omega (arith, consecutive)))
      (at (1 + (number - 1)) (omega (arith, consecutive)))

  within : place_of (length message) (number - 1) + 7 ≤ length message
  within = elim (cases_lt (length message) (place_of (length message) (number - 1) + 7)) [
    | inl beyond ↦
        (let few = room_in_first-few (length message) in
        let counted = total-long (length message) long in
        let last : length later ≡ 0 = ap length (drop_at_end limit direction message (number + 1) (omega (arith, consecutive, long)) some high) in
        let enough = fills sender direction (number - 1) bytes later last spelled in
        let rest = length-drop (place_of (length message) (number - 1)) message in
        omega arith)
    | inr inside ↦ inside
  ]
