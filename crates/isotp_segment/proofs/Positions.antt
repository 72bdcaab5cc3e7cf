-- The positions that the frames of a message are given, where they begin at a position.
use Rattle.std.proofs.Common.{◌≡◌, ℕ, suc, ◌+◌, ◌-◌, ◌<◌, ◌≤◌, List, [], ◌∷◌, length, nat_le, refl, ◌∙◌, ap, arith, cond, inl, inr}
use Rattle.std.specs.List.{range_with_len}
use Rattle.std.proofs.lemmas.Bool.{leb-false, cases_Bool}
use Rattle.isotp_receive.specs.Recording.{IsIn, last_or}
use Rattle.isotp_receive.proofs.Promises.{last-in}
use Rattle.isotp_segment.specs.CanonicalFrames.{consecutive_count, frame_count}
use Rattle.isotp_segment.proofs.Ranges.{range-bounds, last_or-range}
use Rattle.isotp_segment.proofs.Counts.{room_in_first-few}

-- one, or that of the first frame and, after the continue frame, those of the consecutive frames
abbrev pub positions_of : List ℕ → ℕ → List ℕ
positions_of message begun =
    cond (nat_le (length message) 7) (begun ∷ []) (begun ∷ range_with_len (begun + 2) (consecutive_count (length message)))

pub position-bounds : (message : List ℕ) (begun p : ℕ) → IsIn p (positions_of message begun)
    → (begun ≤ p) × (p < begun + frame_count (length message))
position-bounds message begun p i = elim (cases_Bool (nat_le (length message) 7)) [
  | inl t ↦ rw t (elim (rw t at i) [ inl here ↦ (omega arith, omega arith) | inr none ↦ absurd none ])
  | inr t ↦ rw t (elim (rw t at i) [
    | inl here ↦ (omega arith, omega arith)
    | inr later ↦ (let bounds = range-bounds p (begun + 2) (consecutive_count (length message)) later in (omega arith, omega arith))
  ])
]

-- the last position is one of them
pub last-position : (message : List ℕ) (begun : ℕ) → IsIn (last_or 0 (positions_of message begun)) (positions_of message begun)
last-position message begun = elim (cases_Bool (nat_le (length message) 7)) [
  | inl t ↦ rw t (inl refl)
  | inr t ↦ rw t (last-in begun (range_with_len (begun + 2) (consecutive_count (length message))))
]

-- and it is that of the last frame
pub last-position-is : (message : List ℕ) (begun : ℕ) → 1 ≤ length message
    → last_or 0 (positions_of message begun) + 1 ≡ begun + frame_count (length message)
last-position-is message begun some = elim (cases_Bool (nat_le (length message) 7)) [
  | inl t ↦ rw t refl
  | inr t ↦
      (let count = consecutive_count (length message) in
      let long = leb-false (length message) 7 t in
      let few = room_in_first-few (length message) in
      let more : count ≡ suc (count - 1) = omega arith in
      let last = ap (λ c. last_or begun (range_with_len (begun + 2) c)) more ∙ last_or-range begun (begun + 2) (count - 1) in
      rw t (omega arith))
]
