-- Places as the bits of a number.
use Prim.Native.Nat.{zero, suc}
use Rattle.std.proofs.Common.{◌≡◌, ℕ, ◌+◌, ◌-◌, ◌*◌, ◌/◌, ◌%◌, ◌^◌, ◌<◌, ◌≤◌, ◌==◌, ◌||◌, ◌&&◌, not, Bool, true, false, List, [], ◌∷◌, length, Some, nat_le, inl, inr, refl, ap, sym, ◌∙◌, subst, arith, if◌then◌else◌}
use mathlib.Core.Bool.{beq}
use Rattle.std.proofs.lemmas.Bool.{cases_lt}
use Rattle.std.proofs.Math.Bool.{and_assoc}
use Rattle.std.proofs.Math.Pow.{pow-lt}
use Rattle.std.proofs.Math.Nat.{pow-succ'}
use Rattle.uds_rules.specs.Mask.{MaskValue}
use Rattle.uds_rules.specs.Legal.{has_masked_place, masks_something}
use Rattle.uds_rules.specs.Pattern.{behind, few_places}
use Rattle.uds_rules.specs.proving.Bits.{places_of, number_of, places_length, ArePlaces}

-- so many places are a number of so many bits
bits_below : (places : List Bool) → number_of places < 2 ^ length places
bits_below [] = omega arith
bits_below (true ∷ places) =
    let rest = bits_below places in
    let twice = pow-succ' 2 (length places) in
    omega arith
bits_below (false ∷ places) =
    let rest = bits_below places in
    let twice = pow-succ' 2 (length places) in
    omega arith

-- fewer than 64 places leave a bit
pub bits_fit : (count masked : ℕ) → ArePlaces count masked → count < 64 → masked < 9223372036854775808
bits_fit count masked are few =
    let bits : number_of (places_of count masked) < 2 ^ length (places_of count masked) = bits_below (places_of count masked) in
    let below : masked < 2 ^ count = subst (λ n. n < 2 ^ count) are.number (subst (λ n. number_of (places_of count masked) < 2 ^ n) (places_length count masked) bits) in
    elim (cases_lt count 63) [
      | inl less ↦ (let most = pow-lt less in omega arith)
      | inr same ↦ (let is : count ≡ 63 = omega arith in let most : masked < 2 ^ 63 = subst (λ n. masked < 2 ^ n) is below in omega arith)
    ]

-- one more place in front
pub place_in_front : (is_masked : Bool) (count masked added : ℕ) → added ≡ (if is_masked then 1 else 0)
    → places_of (count + 1) (masked * 2 + added) ≡ is_masked ∷ places_of count masked
place_in_front true count masked added is =
    let low : (masked * 2 + added) % 2 ≡ 1 = omega arith in
    let high : (masked * 2 + added) / 2 ≡ masked = omega arith in
    let more : count + 1 ≡ suc count = omega arith in
    rw more (rw (low, high) refl)
place_in_front false count masked added is =
    let low : (masked * 2 + added) % 2 ≡ 0 = omega arith in
    let high : (masked * 2 + added) / 2 ≡ masked = omega arith in
    let more : count + 1 ≡ suc count = omega arith in
    rw more (rw (low, high) refl)

pub more_places : (is_masked : Bool) (count masked added : ℕ) → added ≡ (if is_masked then 1 else 0) → count < 64
    → ArePlaces count masked → ArePlaces (count + 1) (masked * 2 + added)
more_places is_masked count masked added is few are = record {
  most = omega arith;
  number = ap number_of (place_in_front is_masked count masked added is)
      ∙ (let same = are.number in let one = is in omega arith);
}

-- the first place, and the others
places_split : (count masked : ℕ) → 1 ≤ count → places_of count masked ≡ (masked % 2 == 1) ∷ places_of (count - 1) (masked / 2)
places_split zero masked some = absurd (omega arith)
places_split (suc count) masked some =
    let less : suc count - 1 ≡ count = omega arith in
    rw less refl

pub first_place : (count masked : ℕ) → 1 ≤ count → (masked % 2 == 1) ∷ places_of (count - 1) (masked / 2) ≡ places_of count masked
first_place count masked some = sym (places_split count masked some)

pub fewer_places : (count masked : ℕ) → 1 ≤ count → ArePlaces count masked → ArePlaces (count - 1) (masked / 2)
fewer_places count masked some are = record {
  most = (let most = are.most in omega arith);
  number = halved (masked % 2 == 1) (number_of (places_of (count - 1) (masked / 2))) masked (sym (ap number_of (places_split count masked some)) ∙ are.number) refl;
} where
  halved : (odd : Bool) (rest number : ℕ) → (if odd then 1 else 0) + 2 * rest ≡ number → (number % 2 == 1) ≡ odd → rest ≡ number / 2
  halved true rest number is low = omega arith
  halved false rest number is low = omega arith

-- a number is 0 exactly where no place is masked
pub none_masked : (places : List Bool) → not (number_of places == 0) ≡ has_masked_place places
none_masked [] = refl
none_masked (true ∷ places) = (let some : (1 + 2 * number_of places == 0) ≡ false = grind arith in rw some refl)
none_masked (false ∷ places) = ap (λ b. not b) (doubled (number_of places)) ∙ none_masked places where
  doubled : (n : ℕ) → (0 + 2 * n == 0) ≡ (n == 0)
  doubled zero = refl
  doubled (suc n) = grind arith

-- so a mask masks something where its number is not 0, or it cuts off what follows
pub some_masked : (count masked : ℕ) (cuts : Bool) (mask : MaskValue) → ArePlaces count masked
    → record { places = places_of count masked; cuts = cuts } ≡ mask → (not (masked == 0) || cuts) ≡ masks_something mask
some_masked count masked cuts mask are is =
    ap (λ number. not (number == 0) || cuts) (sym are.number) ∙ ap (λ some. some || cuts) (none_masked (places_of count masked)) ∙ ap masks_something is

-- what is added for a place is a bit
pub added_bit : (is_masked : Bool) (added : ℕ) → added ≡ (if is_masked then 1 else 0) → added ≤ 1
added_bit true added is = omega arith
added_bit false added is = omega arith

-- a mask with one more place in front
pub behind_is : (is_masked : Bool) (mask : MaskValue) (count masked added : ℕ) (cuts : Bool) → record { places = places_of count masked; cuts = cuts } ≡ mask
    → added ≡ (if is_masked then 1 else 0) → count < 64
    → Some (record { places = places_of (count + 1) (masked * 2 + added); cuts = cuts }) ≡ few_places (Some (behind is_masked mask))
behind_is is_masked mask count masked added cuts is bit few =
    ap (λ places. Some (record { places = places; cuts = cuts })) (place_in_front is_masked count masked added bit)
    ∙ sym (rw (fits (length (places_of count masked)) (omega (arith, places_length count masked))) refl)
    ∙ ap (λ mask. few_places (Some (behind is_masked mask))) is
  where
    fits : (n : ℕ) → n < 64 → nat_le (suc n) 64 ≡ true
    fits n few = grind arith

-- the fields of a mask, by what a contract sees of it
fields_of : (count masked : ℕ) (cuts : Bool) (mask : MaskValue) → ArePlaces count masked
    → record { places = places_of count masked; cuts = cuts } ≡ mask
    → (masked ≡ number_of mask.places) × (count ≡ length mask.places) × (cuts ≡ mask.cuts)
fields_of count masked cuts mask are is = (
  sym are.number ∙ ap (λ (m : MaskValue). number_of m.places) is,
  sym (places_length count masked) ∙ ap (λ (m : MaskValue). length m.places) is,
  ap (λ (m : MaskValue). m.cuts) is,
)

-- two masks are equal where their fields are, which are compared one after another
pub equal_fields : (bits count bits_2 count_2 : ℕ) (cuts cuts_2 : Bool) (one other : MaskValue) (first second third : Bool)
    → first ≡ (bits == bits_2) → second ≡ (first && (count == count_2)) → third ≡ (second && beq cuts cuts_2)
    → ArePlaces count bits → record { places = places_of count bits; cuts = cuts } ≡ one
    → ArePlaces count_2 bits_2 → record { places = places_of count_2 bits_2; cuts = cuts_2 } ≡ other
    → third
    ≡ ((number_of one.places == number_of other.places) && ((length one.places == length other.places) && beq one.cuts other.cuts))
equal_fields bits count bits_2 count_2 cuts cuts_2 one other first second third same_bits same_count same_end are is are_2 is_2 =
    let of_one = fields_of count bits cuts one are is in
    let of_other = fields_of count_2 bits_2 cuts_2 other are_2 is_2 in
    rw (sym of_one.0, sym of_one.1, sym of_one.2, sym of_other.0, sym of_other.1, sym of_other.2)
    (same_end ∙ ap (λ b. b && beq cuts cuts_2) (same_count ∙ ap (λ b. b && (count == count_2)) same_bits)
    ∙ and_assoc (bits == bits_2) (count == count_2) (beq cuts cuts_2))
