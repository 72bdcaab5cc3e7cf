-- The bytes of a canonical frame, each by its place.
use Rattle.std.proofs.Common.{◌≡◌, ℕ, ◌+◌, ◌-◌, ◌<◌, List, ◌++◌, length, take, map, get_or, sym, ◌∙◌, ap, arith, append_assoc}
use Rattle.std.proofs.Common.{length-append, length-take, ext_get_or, get_or-take, inl, inr}
use Rattle.std.specs.Prelude.{replicate, slice_index, slice_index_or, nat_lt}
use Rattle.std.specs.List.{range_with_len}
use Rattle.std.proofs.Math.Seq.{get_or-append_right}
use Rattle.std.proofs.lemmas.Bool.{ltb-true, ltb-false, cases_Bool}
use Rattle.std.proofs.lemmas.List.{get_or_append_left, get_or_default, get_or_past, get_or-replicate, get_or-append-add, length-replicate}
use Rattle.std.proofs.lemmas.List.FromFn.{length-map-range_with_len, get_or-map-range_with_len}
use Rattle.isotp_segment.specs.CanonicalFrames.{padded, padding}

-- byte i of a text, or padding after its end
abbrev pub byte_at : List ℕ → ℕ → ℕ
byte_at bytes i = slice_index_or bytes i padding

-- the first n bytes of a text, by their places
abbrev pub placed_bytes : ℕ → (ℕ → ℕ) → List ℕ
placed_bytes n byte = map byte (range_with_len 0 n)

get_or-padded : (bytes : List ℕ) (n i : ℕ) → i < n → get_or (bytes ++ replicate n padding) i 0 ≡ byte_at bytes i
get_or-padded bytes n i below = elim (cases_Bool (nat_lt i (length bytes))) [
  | inl t ↦
      (let inside = ltb-true i (length bytes) t in
      get_or_append_left bytes (replicate n padding) 0 i inside ∙ get_or_default bytes i 0 padding inside)
  | inr t ↦
      (let past = ltb-false i (length bytes) t in
      get_or-append_right bytes (replicate n padding) i 0 past
      ∙ get_or-replicate n (i - length bytes) padding 0 (omega arith)
      ∙ sym (get_or_past bytes i padding past))
]

take-padded : (n : ℕ) (bytes : List ℕ) → take n (bytes ++ replicate n padding) ≡ placed_bytes n (byte_at bytes)
take-padded n bytes =
    let longer = bytes ++ replicate n padding in
    let size : length (take n longer) ≡ n =
    omega (arith, length-take n longer, length-append bytes (replicate n padding), length-replicate n padding) in
    ext_get_or 0 _ _ (omega (arith, size, length-map-range_with_len (byte_at bytes) 0 n)) (λ i below.
    let inside : i < n = omega (arith, size) in
    get_or-take n longer i 0 inside
    ∙ get_or-padded bytes n i inside
    ∙ sym (get_or-map-range_with_len (byte_at bytes) 0 n i i 0 inside (omega arith)))

pub padded-by-place : (control bytes : List ℕ) → padded control bytes ≡ placed_bytes 8 (byte_at (control ++ bytes))
unfolding padded
padded-by-place control bytes = ap (take 8) (sym (append_assoc control bytes (replicate 8 padding))) ∙ take-padded 8 (control ++ bytes)

-- a byte of the message that has room in the frame comes after the control information
pub padded-holds : (control bytes : List ℕ) (place i : ℕ) → place < length bytes → i ≡ length control + place → i < 8
    → slice_index bytes place ≡ slice_index (padded control bytes) i
padded-holds control bytes place i inside is room =
    get_or_default bytes place 0 padding inside
    ∙ sym (get_or-append-add control bytes place padding)
    ∙ ap (byte_at (control ++ bytes)) (sym is)
    ∙ sym (get_or-map-range_with_len (byte_at (control ++ bytes)) 0 8 i i 0 room (omega arith))
    ∙ ap (λ l. get_or l i 0) (sym (padded-by-place control bytes))

pub length-padded : (control bytes : List ℕ) → length (padded control bytes) ≡ 8
length-padded control bytes =
    ap (length {A = ℕ}) (padded-by-place control bytes) ∙ length-map-range_with_len (byte_at (control ++ bytes)) 0 8
