-- What a mask makes, byte by byte.
use Prim.Native.Nat.{zero, suc}
use Rattle.std.proofs.Common.{◌≡◌, ℕ, ◌==◌, ◌&&◌, Bool, true, false, List, [], ◌∷◌, ◌++◌, length, take, drop, get_or, nat_le, slice_get, Option, Some, None, option_map, inl, inr, refl, ap, sym, ◌∙◌, subst, if◌then◌else◌}
use Rattle.std.specs.List.{list_all}
use Rattle.std.proofs.lemmas.Bool.{and_parts, cases_Bool, eqb-true, false≢true}
use Rattle.std.proofs.lemmas.Option.{none-some, same_Some}
use Rattle.std.proofs.Math.Dec.{leb-zero, leb-suc-zero, leb-suc-suc}
use Rattle.uds_rules.specs.declared.rule.Deed.{Deed}
use Rattle.uds_rules.specs.declared.rule.Deed.TheVariants as deed
use Rattle.uds_rules.specs.Mask.{MaskValue, masked_bytes, left_by, masked}
use Rattle.uds_rules.specs.Rule.{RuleValue, speaks_of, begins_with, made_by, made_of}
use Rattle.uds_rules.specs.Laws.{MaskedByPlaces, NoByteIsMadeUp}

-- ---- by places

-- the byte at a place, or 0 where that is masked
abbrev hidden : List Bool → ℕ → ℕ → ℕ
hidden places place byte = if get_or places place false then 0 else byte

by_places : (places : List Bool) (bytes : List ℕ) (place : ℕ) → slice_get (masked_bytes places bytes) place ≡ option_map (hidden places place) (slice_get bytes place)
by_places [] bytes place = kept (slice_get bytes place) where
  kept : (byte : Option ℕ) → byte ≡ option_map (hidden [] place) byte
  kept None = refl
  kept (Some byte) = refl
by_places (is_masked ∷ places) [] place = refl
by_places (is_masked ∷ places) (byte ∷ bytes) zero = refl
by_places (is_masked ∷ places) (byte ∷ bytes) (suc place) = by_places places bytes place

-- the first so many bytes
by_length : (count : ℕ) (bytes : List ℕ) (place : ℕ) → slice_get (take count bytes) place ≡ (if nat_le count place then None else slice_get bytes place)
by_length zero bytes place = rw (leb-zero place) refl
by_length (suc count) [] place = either (nat_le (suc count) place) None where
  either : (b : Bool) (byte : Option ℕ) → byte ≡ (if b then byte else byte)
  either true byte = refl
  either false byte = refl
by_length (suc count) (byte ∷ bytes) zero = rw (leb-suc-zero count) refl
by_length (suc count) (byte ∷ bytes) (suc place) = rw (leb-suc-suc count place) (by_length count bytes place)

pub masked_by_places : MaskedByPlaces
masked_by_places mask bytes place =
    by_places mask.places (left_by mask bytes) place ∙ by_cut mask.cuts (hidden mask.places place) (length mask.places) where
      by_cut : (cuts : Bool) (hide : ℕ → ℕ) (count : ℕ) → option_map hide (slice_get (if cuts then take count bytes else bytes) place)
          ≡ (if cuts && nat_le count place then None else option_map hide (slice_get bytes place))
      by_cut false hide count = refl
      by_cut true hide count = ap (option_map hide) (by_length count bytes place) ∙ cut (nat_le count place) where
        cut : (b : Bool) → option_map hide (if b then None else slice_get bytes place) ≡ (if b then None else option_map hide (slice_get bytes place))
        cut true = refl
        cut false = refl

-- ---- by what holds of each byte

module _ (passes : ℕ → Bool) (of_zero : passes 0 ≡ true) where
  of_masked : (places : List Bool) (bytes : List ℕ) → list_all passes bytes ≡ true → list_all passes (masked_bytes places bytes) ≡ true
  of_masked [] bytes all = all
  of_masked (is_masked ∷ places) [] all = refl
  of_masked (true ∷ places) (byte ∷ bytes) all = rw (of_zero, of_masked places bytes (and_parts (passes byte) (list_all passes bytes) all).1) refl
  of_masked (false ∷ places) (byte ∷ bytes) all =
      let parts = and_parts (passes byte) (list_all passes bytes) all in
      rw (parts.0, of_masked places bytes parts.1) refl

  of_take : (count : ℕ) (bytes : List ℕ) → list_all passes bytes ≡ true → list_all passes (take count bytes) ≡ true
  of_take zero bytes all = refl
  of_take (suc count) [] all = refl
  of_take (suc count) (byte ∷ bytes) all =
      let parts = and_parts (passes byte) (list_all passes bytes) all in
      rw (parts.0, of_take count bytes parts.1) refl

  of_left : (mask : MaskValue) (bytes : List ℕ) → list_all passes bytes ≡ true → list_all passes (left_by mask bytes) ≡ true
  of_left mask bytes all = by_cut mask.cuts where
    by_cut : (cuts : Bool) → list_all passes (if cuts then take (length mask.places) bytes else bytes) ≡ true
    by_cut true = of_take (length mask.places) bytes all
    by_cut false = all

  of_made : (mask : MaskValue) (prefix message : List ℕ) → begins_with prefix message ≡ true → list_all passes message ≡ true
      → list_all passes (prefix ++ masked mask (drop (length prefix) message)) ≡ true
  of_made mask [] message begins all = of_masked mask.places (left_by mask message) (of_left mask message all)
  of_made mask (byte ∷ prefix) [] begins all = absurd (false≢true begins)
  of_made mask (byte ∷ prefix) (first ∷ message) begins all =
      let parts = and_parts (byte == first) (begins_with prefix message) begins in
      let bytes = and_parts (passes first) (list_all passes message) all in
      rw (subst (λ b. passes b ≡ true) (sym (eqb-true byte first parts.0)) bytes.0, of_made mask prefix message parts.1 bytes.1) refl

  of_deed : (this : Deed) (prefix message shown : List ℕ) → begins_with prefix message ≡ true → made_by this prefix message ≡ Some shown
      → list_all passes message ≡ true → list_all passes shown ≡ true
  of_deed deed.Drop prefix message shown begins is all = absurd (none-some _ is)
  of_deed (deed.Mask mask) prefix message shown begins is all =
      subst (λ shown. list_all passes shown ≡ true) (same_Some _ _ is) (of_made mask prefix message begins all)

  of_rules : (rules : List RuleValue) (message shown : List ℕ) → made_of rules message ≡ Some shown → list_all passes message ≡ true → list_all passes shown ≡ true
  of_rules [] message shown is all = subst (λ shown. list_all passes shown ≡ true) (same_Some _ _ is) all
  of_rules (rule ∷ rules) message shown is all =
      elim (cases_Bool (speaks_of rule message)) [
        | inl speaks ↦ of_deed rule.deed rule.prefix message shown speaks (rw speaks at is) all
        | inr silent ↦ of_rules rules message shown (rw silent at is) all
      ]

pub no_byte_is_made_up : NoByteIsMadeUp
no_byte_is_made_up rules passes of_zero message shown is all = of_rules passes of_zero rules message shown is all
