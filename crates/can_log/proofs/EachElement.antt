-- What holds of each element of a list: std's lemmas on `All`, for `AllByRecursion`.
use Prim.Native.Nat.{zero, suc}
use Rattle.std.proofs.Common.{◌≡◌, ℕ, Bool, true, List, [], ◌∷◌, ◌++◌, drop, take, replicate, subst, sym}
use Rattle.std.specs.List.{AllByRecursion, list_all}
use Rattle.std.proofs.lemmas.Bool.{and_parts}
use Rattle.std.proofs.lemmas.List.{take-append-drop}

module _ {X : Type 0} (P : X → Type 0) where
  pub AllByRecursion-append : (xs ys : List X) → AllByRecursion P xs → AllByRecursion P ys → AllByRecursion P (xs ++ ys)
  AllByRecursion-append [] ys front back = back
  AllByRecursion-append (x ∷ xs) ys front back = (front.0, AllByRecursion-append xs ys front.1 back)

  -- what holds of each element of a list holds of each in a front of it
  pub AllByRecursion-front : (xs ys : List X) → AllByRecursion P (xs ++ ys) → AllByRecursion P xs
  AllByRecursion-front [] ys each = tt
  AllByRecursion-front (x ∷ xs) ys each = (each.0, AllByRecursion-front xs ys each.1)

  -- and of each after one
  pub AllByRecursion-back : (xs ys : List X) → AllByRecursion P (xs ++ ys) → AllByRecursion P ys
  AllByRecursion-back [] ys each = each
  AllByRecursion-back (x ∷ xs) ys each = AllByRecursion-back xs ys each.1

  pub AllByRecursion-take : (n : ℕ) (xs : List X) → AllByRecursion P xs → AllByRecursion P (take n xs)
  AllByRecursion-take n xs each = AllByRecursion-front (take n xs) (drop n xs) (subst (AllByRecursion P) (sym (take-append-drop n xs)) each)

  pub AllByRecursion-replicate : (n : ℕ) (x : X) → P x → AllByRecursion P (replicate n x)
  AllByRecursion-replicate zero x holds = tt
  AllByRecursion-replicate (suc n) x holds = (holds, AllByRecursion-replicate n x holds)

  pub AllByRecursion-weaker : (Q : X → Type 0) → ((x : X) → P x → Q x) → (xs : List X) → AllByRecursion P xs → AllByRecursion Q xs
  AllByRecursion-weaker Q implies [] each = tt
  AllByRecursion-weaker Q implies (x ∷ xs) each = (implies x each.0, AllByRecursion-weaker Q implies xs each.1)

  -- where two facts hold of each element, so does what follows from both
  pub AllByRecursion-both : (Q R : X → Type 0) → ((x : X) → P x → Q x → R x) → (xs : List X) → AllByRecursion P xs → AllByRecursion Q xs → AllByRecursion R xs
  AllByRecursion-both Q R implies [] each other = tt
  AllByRecursion-both Q R implies (x ∷ xs) each other = (implies x each.0 other.0, AllByRecursion-both Q R implies xs each.1 other.1)

-- where a test passes on each element
pub AllByRecursion-tested : {X : Type 0} (test : X → Bool) (xs : List X) → list_all test xs ≡ true → AllByRecursion (λ x. test x ≡ true) xs
AllByRecursion-tested test [] all = tt
AllByRecursion-tested test (x ∷ xs) all =
    let parts = and_parts (test x) (list_all test xs) all in
    (parts.0, AllByRecursion-tested test xs parts.1)
