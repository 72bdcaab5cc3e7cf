-- Devices of proof: two credit lines are equal where their order says so.
use Rattle.arrayvec.specs.ArrayVec.{ArrayVec}
use Rattle.std.specs.Prelude.{◌≡◌, ℕ, ◌==◌, Bool, true, false, ◌&&◌, List, Option, Some, None}
use Rattle.std.specs.Cmp.{unsigned_ties}
use Rattle.std.specs.Cmp.Lexicographic.{pointwise, slice_cmp, texts_ties}
use Rattle.std.specs.Option.{option_cmp, option_eq}
use Rattle.std.specs.Ordering.{is_eq, nat_cmp, ordering_then}
use Rattle.std.specs.Prelude.{nat_eq}
use Rattle.std.specs.declared.cmp.Ordering.{Ordering}
use Rattle.std.specs.declared.cmp.Ordering.TheVariants.{Less, Equal, Greater}
use Rattle.std.proofs.Common.{refl, sym, ap, ◌∙◌, arith}
use Rattle.std.proofs.lemmas.Bool.{eqb-true}

never : (b : Bool) → (b && false) ≡ false
never true = refl
never false = refl

-- four, of which the first stands behind the next two
four_tied : (p q r s : Ordering)
    → (is_eq p && (is_eq q && (is_eq r && is_eq s))) ≡ is_eq (ordering_then q (ordering_then r (ordering_then p s)))
four_tied p Less r s = never (is_eq p)
four_tied p Greater r s = never (is_eq p)
four_tied p Equal Less s = never (is_eq p)
four_tied p Equal Greater s = never (is_eq p)
four_tied Less Equal Equal s = refl
four_tied Greater Equal Equal s = refl
four_tied Equal Equal Equal s = refl

-- and one in front
five_tied : (o p q r s : Ordering) → (is_eq o && (is_eq p && (is_eq q && (is_eq r && is_eq s))))
    ≡ is_eq (ordering_then o (ordering_then q (ordering_then r (ordering_then p s))))
five_tied Less p q r s = refl
five_tied Greater p q r s = refl
five_tied Equal p q r s = four_tied p q r s

turned : (one other : ℕ) → (one == other) ≡ (other == one)
turned one other = alike (one == other) (other == one) refl refl
  where
    itself : (n : ℕ) → (n == n) ≡ true
    itself n = grind arith

    alike : (a b : Bool) → (one == other) ≡ a → (other == one) ≡ b → a ≡ b
    alike true true there back = refl
    alike false false there back = refl
    alike true false there back = sym (itself one) ∙ ap (λ n. n == one) (eqb-true one other there) ∙ back
    alike false true there back = sym there ∙ ap (λ n. n == other) (sym (eqb-true other one back)) ∙ itself other

number_tie : (one other : ℕ) → (one == other) ≡ is_eq (nat_cmp other one)
number_tie one other = turned one other ∙ unsigned_ties other one

optional_tie : (one other : Option (ArrayVec ℕ))
    → option_eq (λ text more. pointwise nat_eq text.items more.items) one other
    ≡ is_eq (option_cmp (λ text more. slice_cmp nat_cmp text.items more.items) one other)
optional_tie None None = refl
optional_tie None (Some more) = refl
optional_tie (Some text) None = refl
optional_tie (Some text) (Some more) = texts_ties text.items more.items

-- two lines, field by field
pub line_tie : (credits more_credits requests more_requests : ℕ) (tester more_tester unit more_unit : List ℕ)
    (functional more_functional : Option (ArrayVec ℕ))
    → ((credits == more_credits) && ((requests == more_requests) && (pointwise nat_eq tester more_tester && (pointwise nat_eq unit more_unit
    && option_eq (λ text more. pointwise nat_eq text.items more.items) functional more_functional))))
    ≡ is_eq (ordering_then (nat_cmp more_credits credits) (ordering_then (slice_cmp nat_cmp tester more_tester)
    (ordering_then (slice_cmp nat_cmp unit more_unit) (ordering_then (nat_cmp more_requests requests)
    (option_cmp (λ text more. slice_cmp nat_cmp text.items more.items) functional more_functional)))))
line_tie credits more_credits requests more_requests tester more_tester unit more_unit functional more_functional =
    (λ i. number_tie credits more_credits i && (number_tie requests more_requests i && (texts_ties tester more_tester i
    && (texts_ties unit more_unit i && optional_tie functional more_functional i))))
    ∙ five_tied (nat_cmp more_credits credits) (nat_cmp more_requests requests) (slice_cmp nat_cmp tester more_tester)
    (slice_cmp nat_cmp unit more_unit) (option_cmp (λ text more. slice_cmp nat_cmp text.items more.items) functional more_functional)
