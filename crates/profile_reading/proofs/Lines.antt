-- The first lines of a log, which its units have in some order, are read back.
use Rattle.std.proofs.Common.{◌≡◌, ℕ, zero, suc, ◌≤◌, ◌==◌, false, List, [], ◌∷◌, length, map, take, refl, sym, ap, subst, ◌∙◌, arith}
use Rattle.std.proofs.lemmas.Bool.Decides.{nat_tests}
use Rattle.std.proofs.lemmas.List.{take-map}
use Rattle.std.proofs.lemmas.List.Sorted.{All-permutation, IsPermutation-map}
use Rattle.std.proofs.lemmas.Map.Keys.{IsDistinct-IsPermutation}
use Rattle.std.specs.List.{All, AllByRecursion, IsDistinct, swap}
use Rattle.std.specs.List.Sorted.{IsPermutation, SwapsInRange, apply_swaps}
use Rattle.can_log.specs.declared.frame.Id.{Id}
use Rattle.can_log.specs.declared.frame.Id.TheVariants as id
use Rattle.profile.specs.Profile.{profile_of}
use Rattle.uds_find.specs.Credit.{is_same}
use Rattle.uds_find.specs.Finding.{FoundUnit, IsFoundUnit, credit_line, ids_of}
use Rattle.profile_reading.specs.Laws.{IsUnitOfBus, LinesAreReadBack, units_document}
use Rattle.profile_reading.proofs.Files.{profiles_are_read_as_meant}
use lib.ListN.{get_or, get_or-map, length-map, set}
use lib.Seq.{map-set}

-- ---- lists in another order

module _ {X Y : Type 0} (f : X → Y) where
  map-swap : (xs : List X) (i j : ℕ) → map f (swap xs i j) ≡ swap (map f xs) i j
  map-swap [] i j = refl
  map-swap (d ∷ ys) i j =
      map-set f (set (d ∷ ys) i (get_or (d ∷ ys) j d)) j (get_or (d ∷ ys) i d)
      ∙ (λ k. set ((map-set f (d ∷ ys) i (get_or (d ∷ ys) j d) ∙ ap (set (map f (d ∷ ys)) i) (sym (get_or-map f (d ∷ ys) j d))) k) j
      (sym (get_or-map f (d ∷ ys) i d) k))

  map-swaps : (xs : List X) (moves : List (ℕ × ℕ)) → map f (apply_swaps xs moves) ≡ apply_swaps (map f xs) moves
  map-swaps xs [] = refl
  map-swaps xs (move ∷ moves) = map-swap (apply_swaps xs moves) move.0 move.1 ∙ ap (λ l. swap l move.0 move.1) (map-swaps xs moves)

  -- what a mapped list becomes in another order is mapped from a list in that order
  pub record IsMapped (xs : List X) (ys : List Y) : Type 0 where
    pub moved : List X
    pub permuted : IsPermutation xs moved
    pub is : ys ≡ map f moved

  pub mapped-back : (xs : List X) (ys : List Y) → IsPermutation (map f xs) ys → IsMapped xs ys
  mapped-back xs ys permuted = record {
    moved = apply_swaps xs permuted.moves;
    permuted = record { moves = permuted.moves; below = subst (λ n. SwapsInRange n permuted.moves) (length-map xs f) permuted.below; is = refl };
    is = permuted.is ∙ sym (map-swaps xs permuted.moves);
  }

-- ---- each of them

each-one : {X : Type 0} (P : X → Type 0) (xs : List X) → All P xs → AllByRecursion P xs
each-one P [] all = tt
each-one P (x ∷ xs) all = (all 0 x (omega arith), each-one P xs (λ k d below. all (suc k) d (omega (arith, below))))

each-of-first : {X : Type 0} (P : X → Type 0) (n : ℕ) (xs : List X) → AllByRecursion P xs → AllByRecursion P (take n xs)
each-of-first P zero xs all = tt
each-of-first P (suc n) [] all = tt
each-of-first P (suc n) (x ∷ xs) all = (all.0, each-of-first P n xs all.1)

few-first : {X : Type 0} (n : ℕ) (xs : List X) → length (take n xs) ≤ n
few-first zero xs = omega arith
few-first (suc n) [] = omega arith
few-first (suc n) (x ∷ xs) = omega (arith, few-first n xs)

each-other : {X : Type 0} (P Q : X → Type 0) (xs : List X) → ((x : X) → P x → Q x) → AllByRecursion P xs → AllByRecursion Q xs
each-other P Q [] follows all = tt
each-other P Q (x ∷ xs) follows all = (follows x all.0, each-other P Q xs follows all.1)

-- no two of the first ones are one, either
first-distinct : (n : ℕ) (ids : List Id) → IsDistinct is_same ids → IsDistinct is_same (take n ids)
unfolding IsDistinct
first-distinct zero ids distinct = tt
first-distinct (suc n) [] distinct = tt
first-distinct (suc n) (one ∷ ids) distinct =
    (each-of-first (λ other. is_same one other ≡ false) n ids distinct.0, first-distinct n ids distinct.1)

turned : (one other : ℕ) → (one == other) ≡ (other == one)
turned one other = grind (arith, nat_tests)

flips : (one other : Id) → is_same one other ≡ is_same other one
flips (id.Std one) (id.Std other) = turned one other
flips (id.Ext one) (id.Ext other) = turned one other
flips (id.Std one) (id.Ext other) = refl
flips (id.Ext one) (id.Std other) = refl

-- ---- the lines

pub lines_are_read_back : LinesAreReadBack
lines_are_read_back frames lines are carried =
    let mapped = mapped-back (credit_line frames) are.units lines are.each in
    let first = take 64 mapped.moved in
    let told : take 64 lines ≡ map (credit_line frames) (take 64 mapped.moved)
    = ap (take 64) mapped.is ∙ take-map (credit_line frames) 64 mapped.moved in
    let found = each-of-first (IsFoundUnit frames) 64 mapped.moved
    (each-one (IsFoundUnit frames) mapped.moved (All-permutation (IsFoundUnit frames) are.units mapped.moved mapped.permuted are.found)) in
    let distinct = subst (IsDistinct is_same) (take-map (λ (one : FoundUnit). one.pair.unit) 64 mapped.moved)
    (first-distinct 64 (ids_of mapped.moved)
    (IsDistinct-IsPermutation is_same flips (ids_of are.units) (ids_of mapped.moved)
    (IsPermutation-map (λ (one : FoundUnit). one.pair.unit) are.units mapped.moved mapped.permuted) are.once)) in
    record {
      units = first;
      found = found;
      told = told;
      read =
          ap (λ l. profile_of (units_document l)) told
          ∙ profiles_are_read_as_meant frames first (each-other (IsFoundUnit frames) (IsUnitOfBus frames) first carried found) distinct
          (few-first 64 mapped.moved);
    }
