-- Lists of which none is equal to one behind it, and what is among a list.
use Prim.Native.Nat.{suc}
use Rattle.std.proofs.Common.{◌≡◌, ℕ, List, [], ◌∷◌, ◌++◌, Option, Some, None, refl, ap, sym, subst, ◌∙◌, map}
use Rattle.std.specs.Prelude.{◌≢◌, take, drop}
use Rattle.std.specs.List.{AllByRecursion, cons_option, filter_map}
use Rattle.std.proofs.lemmas.List.{take-append-drop}
use Rattle.can_log.proofs.Promises.{AllByRecursion-append, AllByRecursion-front, AllByRecursion-weaker}
use Rattle.uds_exchange.proofs.Promises.{at_front}
use Rattle.trace_report.specs.Laws.{AreDistinct}
use Rattle.trace_report.specs.Linked.{IsAmong}

-- two lists, of which none of the one is equal to any of the other
pub distinct-append : {X : Type 0} (xs ys : List X) → AreDistinct xs → AreDistinct ys → AllByRecursion (λ x. AllByRecursion (λ y. x ≢ y) ys) xs → AreDistinct (xs ++ ys)
distinct-append [] ys one other apart = other
distinct-append (x ∷ xs) ys one other apart =
    (AllByRecursion-append (λ y. x ≢ y) xs ys one.0 apart.0, distinct-append xs ys one.1 other apart.1)

-- a front of a list
pub distinct-front : {X : Type 0} (xs ys : List X) → AreDistinct (xs ++ ys) → AreDistinct xs
distinct-front [] ys distinct = tt
distinct-front (x ∷ xs) ys distinct = (AllByRecursion-front (λ y. x ≢ y) xs ys distinct.0, distinct-front xs ys distinct.1)

-- one more
pub distinct-more : {X : Type 0} (xs : List X) (y : X) → AreDistinct xs → AllByRecursion (λ x. x ≢ y) xs → AreDistinct (xs ++ y ∷ [])
distinct-more xs y distinct apart =
    distinct-append xs (y ∷ []) distinct (tt, tt) (AllByRecursion-weaker (λ x. x ≢ y) (λ x. AllByRecursion (λ z. x ≢ z) (y ∷ [])) (λ x is. (is, tt)) xs apart)

-- texts of distinct things, where different things have different texts
module _ {X Y : Type 0} (P : X → Type 0) (text : X → Y) (apart : (a b : X) → P a → P b → a ≢ b → text a ≢ text b) where
  texts-apart : (x : X) (xs : List X) → P x → AllByRecursion P xs → AllByRecursion (λ later. x ≢ later) xs → AllByRecursion (λ later. text x ≢ later) (map text xs)
  texts-apart x [] holds each is = tt
  texts-apart x (y ∷ xs) holds each is = (apart x y holds each.0 is.0, texts-apart x xs holds each.1 is.1)

  pub distinct-texts : (xs : List X) → AllByRecursion P xs → AreDistinct xs → AreDistinct (map text xs)
  distinct-texts [] each distinct = tt
  distinct-texts (x ∷ xs) each distinct = (texts-apart x xs each.0 each.1 distinct.0, distinct-texts xs each.1 distinct.1)

-- What is among a list is among a longer one.

pub among-front : {X : Type 0} (x : X) (xs ys : List X) → IsAmong x xs → IsAmong x (xs ++ ys)
among-front x xs ys is = (is.0, at_front xs ys is.0 x is.1)

pub among-last : {X : Type 0} (x : X) (xs : List X) → IsAmong x (xs ++ x ∷ [])
among-last x [] = (0, refl)
among-last x (y ∷ xs) = (let rest = among-last x xs in (suc rest.0, rest.1))

-- what is found of two lists
pub found-append : {X Y : Type 0} (find : X → Option Y) (xs ys : List X) → filter_map find (xs ++ ys) ≡ filter_map find xs ++ filter_map find ys
found-append find [] ys = refl
found-append {X} {Y} find (x ∷ xs) ys = ap (cons_option (find x)) (found-append find xs ys) ∙ sym (by (find x))
  where
    by : (o : Option Y) → cons_option o (filter_map find xs) ++ filter_map find ys ≡ cons_option o (filter_map find xs ++ filter_map find ys)
    by None = refl
    by (Some y) = refl

-- what holds of each of a list holds of its first ones
pub each-of-first : {X : Type 0} (P : X → Type 0) (n : ℕ) (xs : List X) → AllByRecursion P xs → AllByRecursion P (take n xs)
each-of-first P n xs each = AllByRecursion-front P (take n xs) (drop n xs) (subst (AllByRecursion P) (sym (take-append-drop n xs)) each)
