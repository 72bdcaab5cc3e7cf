-- What texts spell.
use Rattle.std.proofs.Common.{◌≡◌, ℕ, ◌+◌, ◌-◌, ◌*◌, ◌/◌, ◌<◌, ◌≤◌, Bool, true, false, List, [], ◌∷◌, ◌++◌, length, take, drop, get_or, replicate, length-drop, nat_le, Option, Some, None, Result, Ok, Err, option_map, inl, inr, refl, ap, sym, ◌∙◌, arith}
use Prim.Native.Nat.{suc}
use Rattle.std.proofs.lemmas.Bool.{cases_Bool}
use Rattle.std.proofs.lemmas.Option.{none-some, same_Some}
use Rattle.std.proofs.lemmas.List.{length-append, length-replicate, drop-replicate}
use Rattle.std.proofs.Math.Seq.{take-append_seam, take-length}
use Rattle.hex.specs.Hex.{decode_of}
use Rattle.hex.specs.declared.error.FromHexError.{FromHexError}
use Rattle.hex.proofs.HexLemmas.{decode_of-ok}
use Rattle.uds_rules.specs.Pattern.{prefix_in, prefix_of, mask_in, few_places, behind, place_in, in_front}
use Rattle.uds_rules.specs.Mask.{MaskValue}
use Rattle.uds_rules.specs.proving.Padded.{IsPrefixHeld, padded}

-- too few digits, or too many, are no prefix
pub no_bytes : (digits : List ℕ) → length digits / 2 ≡ 0 → prefix_in digits ≡ None
no_bytes digits none = by_bytes digits (decode_of digits) refl none where
  by_bytes : (digits : List ℕ) (read : Result (List ℕ) FromHexError) → decode_of digits ≡ read → length digits / 2 ≡ 0 → prefix_of read ≡ None
  by_bytes digits (Err error) is none = refl
  by_bytes digits (Ok bytes) is none =
      let long = (decode_of-ok digits bytes is).2 in
      let empty : length bytes ≡ 0 = omega arith in
      rw empty refl

pub many_bytes : (digits : List ℕ) → 16 < length digits / 2 → prefix_in digits ≡ None
many_bytes digits many = by_bytes digits (decode_of digits) refl many where
  by_bytes : (digits : List ℕ) (read : Result (List ℕ) FromHexError) → decode_of digits ≡ read → 16 < length digits / 2 → prefix_of read ≡ None
  by_bytes digits (Err error) is many = refl
  by_bytes digits (Ok bytes) is many =
      let long = (decode_of-ok digits bytes is).2 in
      let above : 16 < length bytes = omega arith in
      let some : nat_le 1 (length bytes) ≡ true = grind arith in
      let off : nat_le (length bytes) 16 ≡ false = grind arith in
      rw (some, off) refl

-- decoded bytes with what is left of 16 zeros behind them
pub held_prefix : (bytes : List ℕ) (count : ℕ) → length bytes ≡ count → 1 ≤ count → count ≤ 16 → IsPrefixHeld count (bytes ++ drop count (replicate 16 0))
held_prefix bytes count long some few = record {
  least = some;
  most = few;
  whole = (
      let zeros : List ℕ = replicate 16 0 in
      let all : length zeros ≡ 16 = (let zero : ℕ = 0 in length-replicate 16 zero) in
      let both : length (bytes ++ drop count zeros) ≡ length bytes + length (drop count zeros) = length-append bytes (drop count zeros) in
      let behind : length (drop count zeros) ≡ length zeros - count = length-drop count zeros in
      omega arith);
  filled =
      ap padded (sym (ap (λ n. take n (bytes ++ drop count (replicate 16 0))) long) ∙ take-append_seam bytes (drop count (replicate 16 0)))
      ∙ ap (λ n. bytes ++ replicate (16 - n) 0) long
      ∙ ap (λ zeros. bytes ++ zeros) (sym (drop-replicate count 16 0));
}

-- one more place in front of what was read
pub place_in_front : (is_masked : Bool) (read : Option MaskValue) (mask : MaskValue) → few_places read ≡ Some mask
    → few_places (Some (behind is_masked mask)) ≡ few_places (option_map (behind is_masked) read)
place_in_front is_masked None mask is = absurd (none-some _ is)
place_in_front is_masked (Some read) mask is =
    elim (cases_Bool (nat_le (length read.places) 64)) [
      | inl few ↦ ap (λ mask. few_places (Some (behind is_masked mask))) (sym (same_Some _ _ (rw few at is)))
      | inr many ↦ absurd (none-some _ (rw many at is))
    ]

-- and in front of what was not
pub no_place_in_front : (is_masked : Bool) (read : Option MaskValue) → few_places read ≡ None → few_places (option_map (behind is_masked) read) ≡ None
no_place_in_front is_masked None is = refl
no_place_in_front is_masked (Some read) is =
    elim (cases_Bool (nat_le (length read.places) 64)) [
      | inl few ↦ absurd (none-some _ (sym (rw few at is)))
      | inr many ↦ rw (too_many (length read.places) many) refl
    ] where
      too_many : (count : ℕ) → nat_le count 64 ≡ false → nat_le (suc count) 64 ≡ false
      too_many count many = grind arith

-- one more place is two more bytes of text
one_place : (place : Option Bool) (rest : List ℕ) (mask : MaskValue) (read : Option MaskValue) → ((less : MaskValue) → read ≡ Some less → length rest ≤ 2 * length less.places + 1)
    → in_front place read ≡ Some mask → suc (suc (length rest)) ≤ 2 * length mask.places + 1
one_place None rest mask read short is = absurd (none-some _ is)
one_place (Some is_masked) rest mask None short is = absurd (none-some _ is)
one_place (Some is_masked) rest mask (Some less) short is =
    let of_rest = short less refl in
    let more : length (behind is_masked less).places ≡ length mask.places = ap (λ mask. length mask.places) (same_Some _ _ is) in
    omega arith

-- a mask has no longer text than two bytes for each place, and one
text_is_short : (marks : List ℕ) (mask : MaskValue) → mask_in marks ≡ Some mask → length marks ≤ 2 * length mask.places + 1
text_is_short [] mask is = omega arith
text_is_short (mark ∷ []) mask is = omega arith
text_is_short (one ∷ two ∷ rest) mask is = one_place (place_in one two) rest mask (mask_in rest) (λ less of_rest. text_is_short rest less of_rest) is

-- a text by its first two bytes, and the others
pub two_bytes : (marks : List ℕ) → 2 ≤ length marks
    → mask_in marks ≡ in_front (place_in (get_or marks 0 0) (get_or marks 1 0)) (mask_in (take (length marks - 2) (drop 2 marks)))
two_bytes [] long = absurd (omega arith)
two_bytes (one ∷ []) long = absurd (omega arith)
two_bytes (one ∷ two ∷ rest) long = ap (λ rest. in_front (place_in one two) (mask_in rest)) (sym (whole rest)) where
  whole : (rest : List ℕ) → take (suc (suc (length rest)) - 2) rest ≡ rest
  whole rest = (let count : suc (suc (length rest)) - 2 ≡ length rest = omega arith in ap (λ n. take n rest) count ∙ take-length rest)

-- so a longer text is no mask of few places
pub long_text : (marks : List ℕ) → 129 < length marks → few_places (mask_in marks) ≡ None
long_text marks long = by_text (mask_in marks) refl where
  many_places : (count size : ℕ) → size ≤ 2 * count + 1 → 129 < size → nat_le count 64 ≡ false
  many_places count size short long = (let above : 64 < count = omega arith in grind (arith, above))

  by_text : (read : Option MaskValue) → mask_in marks ≡ read → few_places read ≡ None
  by_text None is = refl
  by_text (Some mask) is = rw (many_places (length mask.places) (length marks) (text_is_short marks mask is) long) refl
