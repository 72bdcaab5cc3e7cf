-- The orders of the types, that of `CreditLine` by hand and the others derived, are those of the definitions.
use Rattle.std.proofs.Common.{◌≡◌, Bool, true, false, List, refl, sym, ap, subst, rules, is_eq, Ordering}
use Rattle.std.proofs.lemmas.Bool.{and_from, and_parts, eqb-true}
use Rattle.std.proofs.lemmas.Cmp.{back_total, nat_cmp_total, nat_list_cmp_total, on_total, then_total}
use Rattle.std.proofs.lemmas.List.MinMax.{ranks_by}
use Rattle.std.specs.Cmp.{IsEquivalence, IsStrictWeakOrder, bool_cmp_total}
use Rattle.std.specs.List.Sorted.{IsSorted}
use Rattle.std.specs.Ordering.{is_lt}
use Rattle.can_log.specs.Canonical.{identifier_text}
use lib.Dec.{eqb}
use Rattle.can_log.specs.contracts.frame.IdOrd.TheImpl as id_ord
use Rattle.can_log.specs.declared.frame.Id.{Id}
use Rattle.can_log.specs.declared.frame.Id.TheVariants as id
use Rattle.uds_find.specs.Credit.{is_same, is_same_pair}
use Rattle.uds_find.specs.Finding.{is_same_unit_service, line_order}
use Rattle.uds_find.specs.Tester.{candidate_order}
use Rattle.uds_find.specs.declared.candidate.Candidate.{Candidate}
use Rattle.uds_find.specs.contracts.pair.CreditLineOrd.TheImpl as line_ord
use Rattle.uds_find.specs.contracts.pair.IdPairOrd.TheImpl as pair_ord
use Rattle.uds_find.specs.contracts.pair.UnitServiceOrd.TheImpl as unit_service_ord
use Rattle.uds_find.specs.declared.pair.CreditLine.{CreditLine}
use Rattle.uds_find.specs.declared.pair.IdPair.{IdPair}
use Rattle.uds_find.specs.declared.pair.UnitService.{UnitService}

-- the orders by which tables keep their keys
abbrev pub id_order : Id → Id → Ordering
id_order = (id_ord.ghosts).cmp

abbrev pub pair_order : IdPair → IdPair → Ordering
pair_order = (pair_ord.ghosts).cmp

abbrev pub unit_service_order : UnitService → UnitService → Ordering
unit_service_order = (unit_service_ord.ghosts).cmp

alike : (a b : Bool) → (a ≡ true → b ≡ true) → (b ≡ true → a ≡ true) → a ≡ b
alike true b there back = sym (there refl)
alike false true there back = back refl
alike false false there back = refl

-- ---- identifiers

pub same-identifier : (one other : Id) → is_same one other ≡ true → one ≡ other
same-identifier (id.Std one) (id.Std other) same = ap id.Std (eqb-true one other same)
same-identifier (id.Ext one) (id.Ext other) same = ap id.Ext (eqb-true one other same)
same-identifier (id.Std one) (id.Ext other) same = absurd (cc same)
same-identifier (id.Ext one) (id.Std other) same = absurd (cc same)

pub identifier-itself : (one : Id) → is_same one one ≡ true
identifier-itself (id.Std number) = search rules
identifier-itself (id.Ext number) = search rules

id-key : (one other : Id) → is_eq (id_order one other) ≡ true → one ≡ other
id-key one other same = search rules

id-itself : (one : Id) → is_eq (id_order one one) ≡ true
id-itself one = search rules

-- a table tells identifiers apart exactly where they are not one
pub same-id : (one other : Id) → is_eq (id_order one other) ≡ is_same one other
same-id one other = alike _ _
    (λ same. subst (λ name. is_same one name ≡ true) (id-key one other same) (identifier-itself one))
    (λ same. subst (λ name. is_eq (id_order one name) ≡ true) (same-identifier one other same) (id-itself one))

-- ---- pairs

pub one-pair : (one other : IdPair) → is_same_pair one other ≡ true → one ≡ other
one-pair one other same =
    let parts = and_parts (is_same one.tester other.tester) (is_same one.unit other.unit) same in
    λ i. record { tester = same-identifier one.tester other.tester parts.0 i; unit = same-identifier one.unit other.unit parts.1 i }

pub pair-itself : (one : IdPair) → is_same_pair one one ≡ true
pair-itself one = and_from _ _ (identifier-itself one.tester) (identifier-itself one.unit)

key-pair : (one other : IdPair) → is_eq (pair_order one other) ≡ true → one ≡ other
key-pair one other same = search rules

key-itself : (one : IdPair) → is_eq (pair_order one one) ≡ true
key-itself one = search rules

pub same-pair : (one other : IdPair) → is_eq (pair_order one other) ≡ is_same_pair one other
same-pair one other = alike _ _
    (λ same. subst (λ pair. is_same_pair one pair ≡ true) (key-pair one other same) (pair-itself one))
    (λ same. subst (λ pair. is_eq (pair_order one pair) ≡ true) (one-pair one other same) (key-itself one))

-- ---- units with services

pub one-unit-service : (one other : UnitService) → is_same_unit_service one other ≡ true → one ≡ other
one-unit-service one other same =
    let parts = and_parts (is_same one.unit other.unit) (eqb one.service other.service) same in
    λ i. record { unit = same-identifier one.unit other.unit parts.0 i; service = eqb-true one.service other.service parts.1 i }

pub unit-service-itself : (one : UnitService) → is_same_unit_service one one ≡ true
unit-service-itself one = and_from _ _ (identifier-itself one.unit) (search rules)

key-unit-service : (one other : UnitService) → is_eq (unit_service_order one other) ≡ true → one ≡ other
key-unit-service one other same = search rules

pub unit-service-key-itself : (one : UnitService) → is_eq (unit_service_order one one) ≡ true
unit-service-key-itself one = search rules

pub same-unit-service : (one other : UnitService) → is_eq (unit_service_order one other) ≡ is_same_unit_service one other
same-unit-service one other = alike _ _
    (λ same. subst (λ key. is_same_unit_service one key ≡ true) (key-unit-service one other same) (unit-service-itself one))
    (λ same. subst (λ key. is_eq (unit_service_order one key) ≡ true) (one-unit-service one other same) (unit-service-key-itself one))

-- lines sorted by the type's order stand in theirs
pub lines-sorted : (lines : List CreditLine) → IsSorted (line_ord.ghosts).cmp lines → IsSorted line_order lines
lines-sorted lines sorted = sorted

-- ---- the laws of being one

pub ids-equal : IsEquivalence is_same
ids-equal = record {
  refl = identifier-itself;
  symm = λ one other. alike _ _
      (λ same. subst (λ name. is_same name one ≡ true) (same-identifier one other same) (identifier-itself one))
      (λ same. subst (λ name. is_same name other ≡ true) (same-identifier other one same) (identifier-itself other));
  congr = λ one other third same. ap (λ name. is_same name third) (same-identifier one other same);
}

pub pairs-equal : IsEquivalence is_same_pair
pairs-equal = record {
  refl = pair-itself;
  symm = λ one other. alike _ _
      (λ same. subst (λ pair. is_same_pair pair one ≡ true) (one-pair one other same) (pair-itself one))
      (λ same. subst (λ pair. is_same_pair pair other ≡ true) (one-pair other one same) (pair-itself other));
  congr = λ one other third same. ap (λ pair. is_same_pair pair third) (one-pair one other same);
}

-- one candidate stands before another by an order
pub candidates-ranked : IsStrictWeakOrder (λ (one other : Candidate). is_lt (candidate_order one other))
candidates-ranked = ranks_by
    (then_total (on_total (λ (c : Candidate). c.functional) bool_cmp_total)
    (then_total (back_total (on_total (λ (c : Candidate). c.credits) nat_cmp_total))
    (on_total (λ (c : Candidate). identifier_text c.tester) nat_list_cmp_total))) (λ (c : Candidate). c)
