-- Texts of rules, read back.
use Prim.Native.Char.{code}
use Rattle.std.proofs.Common.{◌≡◌, ℕ, ◌==◌, ◌&&◌, Bool, true, false, List, [], ◌∷◌, ◌++◌, length, take, drop, Option, Some, None, option_map, inl, inr, refl, ap, sym, ◌∙◌, arith, append_assoc}
use Rattle.std.specs.List.{flat_map, list_all, prefix_len}
use Rattle.std.proofs.lemmas.Bool.{and_parts, cases_Bool, eqb-true}
use Rattle.std.proofs.lemmas.Option.{none-some, same_Some}
use Rattle.std.proofs.lemmas.List.Sums.{list_all-from_AllPass}
use Rattle.std.proofs.Math.Seq.{drop-append_seam, take-append_seam}
use Rattle.hex.specs.Hex.{encode_upper, is_hex_digit}
use Rattle.hex.proofs.HexLemmas.{decode_of-encode_upper, decode_of-ok}
use Rattle.uds_rules.specs.Mask.{MaskValue}
use Rattle.uds_rules.specs.Pattern.{place_mark, end_text, mask_text, pattern_text, behind, place_in, in_front, mask_in, few_places, few_bytes, prefix_of, prefix_in, dropping, digits_of, marks_of, masking_parts}
use Rattle.uds_rules.specs.Laws.{PrefixIsReadBack, PatternIsReadBack, ReadAsSpelled}

pub prefix_is_read_back : PrefixIsReadBack
prefix_is_read_back prefix bytes = ap (λ read. dropping (prefix_of read)) (decode_of-encode_upper prefix bytes)

-- ---- masks

mask_read_back : (places : List Bool) (cuts : Bool) → mask_in (flat_map place_mark places ++ end_text cuts) ≡ Some (record { places = places; cuts = cuts })
mask_read_back [] true = refl
mask_read_back [] false = refl
mask_read_back (true ∷ places) cuts = ap (option_map (behind true)) (mask_read_back places cuts)
mask_read_back (false ∷ places) cuts = ap (option_map (behind false)) (mask_read_back places cuts)

-- a place that two bytes spell is spelled by them
place_spelled : (one two : ℕ) (is_masked : Bool) → place_in one two ≡ Some is_masked → place_mark is_masked ≡ one ∷ two ∷ []
place_spelled one two is_masked is =
    elim (cases_Bool (one == code "?" && two == code "?")) [
      | inl kept ↦
          let parts = and_parts (one == code "?") (two == code "?") kept in
          let which : false ≡ is_masked = same_Some _ _ (rw kept at is) in
          ap place_mark (sym which) ∙ ap (λ byte. byte ∷ code "?" ∷ []) (sym (eqb-true one _ parts.0)) ∙ ap (λ byte. one ∷ byte ∷ []) (sym (eqb-true two _ parts.1))
      | inr other ↦
          elim (cases_Bool (one == code "." && two == code ".")) [
            | inl masked ↦
                let parts = and_parts (one == code ".") (two == code ".") masked in
                let which : true ≡ is_masked = same_Some _ _ (rw masked at (rw other at is)) in
                ap place_mark (sym which) ∙ ap (λ byte. byte ∷ code "." ∷ []) (sym (eqb-true one _ parts.0)) ∙ ap (λ byte. one ∷ byte ∷ []) (sym (eqb-true two _ parts.1))
            | inr neither ↦ absurd (none-some _ (rw neither at (rw other at is)))
          ]
    ]

front_spelled : (one two : ℕ) (rest : List ℕ) (place : Option Bool) (read : Option MaskValue) (mask : MaskValue) → place_in one two ≡ place
    → ((less : MaskValue) → read ≡ Some less → rest ≡ mask_text less) → in_front place read ≡ Some mask → one ∷ two ∷ rest ≡ mask_text mask
front_spelled one two rest None read mask of_place of_rest is = absurd (none-some _ is)
front_spelled one two rest (Some is_masked) None mask of_place of_rest is = absurd (none-some _ is)
front_spelled one two rest (Some is_masked) (Some less) mask of_place of_rest is =
    ap (λ rest. one ∷ two ∷ rest) (of_rest less refl)
    ∙ ap (λ front. front ++ mask_text less) (sym (place_spelled one two is_masked of_place))
    ∙ sym (append_assoc (place_mark is_masked) (flat_map place_mark less.places) (end_text less.cuts))
    ∙ ap mask_text (same_Some _ _ is)

pub read_as_spelled : ReadAsSpelled
read_as_spelled [] mask is = ap mask_text (same_Some _ _ is)
read_as_spelled (mark ∷ []) mask is =
    elim (cases_Bool (mark == code "*")) [
      | inl star ↦ ap (λ byte. byte ∷ []) (eqb-true mark _ star) ∙ ap mask_text (same_Some _ _ (rw star at is))
      | inr other ↦ absurd (none-some _ (rw other at is))
    ]
read_as_spelled (one ∷ two ∷ rest) mask is =
    front_spelled one two rest (place_in one two) (mask_in rest) mask refl (λ less of_rest. read_as_spelled rest less of_rest) is

-- ---- patterns

-- the marks of a mask are no digits
no_digit : (places : List Bool) (cuts : Bool) → prefix_len is_hex_digit (flat_map place_mark places ++ end_text cuts) ≡ 0
no_digit [] true = refl
no_digit [] false = refl
no_digit (true ∷ places) cuts = refl
no_digit (false ∷ places) cuts = refl

-- so the digits of a pattern end where its prefix does
all_digits : (digits marks : List ℕ) → list_all is_hex_digit digits ≡ true → prefix_len is_hex_digit marks ≡ 0 → prefix_len is_hex_digit (digits ++ marks) ≡ length digits
all_digits [] marks all none = none
all_digits (digit ∷ digits) marks all none =
    let parts = and_parts (is_hex_digit digit) (list_all is_hex_digit digits) all in
    let rest = all_digits digits marks parts.1 none in
    rw parts.0 (omega (arith, rest))

pub pattern_is_read_back : PatternIsReadBack
pattern_is_read_back prefix mask bytes =
    let digits : List ℕ = encode_upper prefix in
    let decoded = decode_of-encode_upper prefix bytes in
    let are : list_all is_hex_digit digits ≡ true = list_all-from_AllPass is_hex_digit digits (decode_of-ok digits prefix decoded).1 in
    let ends : prefix_len is_hex_digit (digits ++ mask_text mask) ≡ length digits = all_digits digits (mask_text mask) are (no_digit mask.places mask.cuts) in
    let front : digits_of (digits ++ mask_text mask) ≡ digits =
    ap (λ n. take n (digits ++ mask_text mask)) ends ∙ take-append_seam digits (mask_text mask) in
    let behind : marks_of (digits ++ mask_text mask) ≡ mask_text mask =
    ap (λ n. drop n (digits ++ mask_text mask)) ends ∙ drop-append_seam digits (mask_text mask) in
    ap (λ digits. masking_parts (prefix_in digits) (few_places (mask_in (marks_of (pattern_text prefix mask))))) front
    ∙ ap (λ marks. masking_parts (prefix_in digits) (few_places (mask_in marks))) behind
    ∙ ap (λ read. masking_parts (prefix_of read) (few_places (mask_in (mask_text mask)))) decoded
    ∙ ap (λ read. masking_parts (few_bytes prefix) (few_places read)) (mask_read_back mask.places mask.cuts)
