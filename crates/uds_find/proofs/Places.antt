-- Which asking a unit answered last, as a table has it, and which units and services have a place there.
use Rattle.std.proofs.Common.{◌≡◌, ℕ, Bool, true, false, List, Option, Some, None, Result, Ok, Err, refl, sym, ◌∙◌, ap, subst, rules}
use Rattle.std.specs.BTreeMap.{BTreeMap, Updates}
use Rattle.std.specs.BTreeMap as tree
use Rattle.std.specs.Map.{lookup}
use Rattle.std.specs.Option.{is_some, unwrap_or, IsSome}
use Rattle.std.specs.Ordering.{is_eq}
use Rattle.std.specs.Prelude.{if◌then◌else◌, OnErr, OnOk}
use Rattle.uds_find.specs.Finding.{is_same_unit_service, number_at}
use Rattle.uds_find.specs.proving.Steps.{HasOnePlace}
use Rattle.uds_find.specs.declared.pair.UnitService.{UnitService}
use Rattle.uds_find.proofs.Orders.{one-unit-service, same-unit-service, unit_service_order, unit-service-itself}
use Rattle.uds_find.proofs.Tallies.{found-after, found-key}

pub nothing-there : {X : Type 0} (o : Option X) → is_some o ≡ false → o ≡ None
nothing-there None is = refl
nothing-there (Some x) is = absurd (cc is)

-- the numbers after one was written
pub number-after : (old new : BTreeMap UnitService ℕ) (key : UnitService) (now : ℕ) → Updates unit_service_order old new key (Some now)
    → (other : UnitService)
    → number_at new.entries other ≡ (if is_same_unit_service key other then now else number_at old.entries other)
number-after old new key now updates other =
    ap (λ o. unwrap_or o 0) (found-after unit_service_order is_same_unit_service same-unit-service key old new now updates other)
    ∙ by (is_same_unit_service key other)
  where
    by : (b : Bool) → unwrap_or (if b then Some now else lookup (is_same_unit_service other) old.entries) 0
        ≡ (if b then now else number_at old.entries other)
    by true = refl
    by false = refl

-- a place with 0 in it changes no number
pub number-stays : (old new : BTreeMap UnitService ℕ) (key : UnitService) → Updates unit_service_order old new key (Some 0)
    → lookup (λ other. is_eq (unit_service_order key other)) old.entries ≡ None → (other : UnitService)
    → number_at new.entries other ≡ number_at old.entries other
number-stays old new key updates absent other = number-after old new key 0 updates other ∙ by (is_same_unit_service key other) refl
  where
    nothing : number_at old.entries key ≡ 0
    nothing = ap (λ o. unwrap_or o 0) (sym (found-key unit_service_order is_same_unit_service same-unit-service key old.entries) ∙ absent)

    by : (b : Bool) → is_same_unit_service key other ≡ b → (if b then 0 else number_at old.entries other) ≡ number_at old.entries other
    by true same = sym nothing ∙ ap (number_at old.entries) (one-unit-service key other same)
    by false apart = refl

-- a number written in its place
pub written : {V E : Type 0} (result : Result V E) (old new : BTreeMap UnitService ℕ) (key : UnitService) (now : ℕ)
    → OnOk result (Updates unit_service_order old new key (Some now)) → OnErr result (tree.get unit_service_order old key ≡ None)
    → IsSome (lookup (is_same_unit_service key) old.entries) → (other : UnitService)
    → number_at new.entries other ≡ (if is_same_unit_service key other then now else number_at old.entries other)
written (Ok v) old new key now updates absent there = number-after old new key now updates
written (Err e) old new key now updates absent there =
    absurd (cc (subst IsSome (sym (found-key unit_service_order is_same_unit_service same-unit-service key old.entries) ∙ absent) there))

-- ---- which keys have a place

-- after one entry was written
pub placed : (old new : BTreeMap UnitService ℕ) (key : UnitService) (now : ℕ) → Updates unit_service_order old new key (Some now)
    → HasOnePlace key old.entries new.entries
placed old new key now updates other =
    ap is_some (found-after unit_service_order is_same_unit_service same-unit-service key old new now updates other)
    ∙ by (is_same_unit_service key other)
  where
    by : (b : Bool) → is_some (if b then Some now else lookup (is_same_unit_service other) old.entries)
        ≡ (if b then true else is_some (lookup (is_same_unit_service other) old.entries))
    by true = refl
    by false = refl

-- where there is one already
pub stays-placed : (table : List (UnitService × ℕ)) (key : UnitService) → is_some (lookup (is_same_unit_service key) table) ≡ true
    → HasOnePlace key table table
stays-placed table key there other = by (is_same_unit_service key other) refl
  where
    by : (b : Bool) → is_same_unit_service key other ≡ b
        → is_some (lookup (is_same_unit_service other) table) ≡ (if is_same_unit_service key other then true else is_some (lookup
        (is_same_unit_service other) table))
    by true same =
        sym (ap (λ (k : UnitService). is_some (lookup (is_same_unit_service k) table)) (one-unit-service key other same)) ∙ there
        ∙ sym (ap (λ b. if b then true else is_some (lookup (is_same_unit_service other) table)) same)
    by false apart = sym (ap (λ b. if b then true else is_some (lookup (is_same_unit_service other) table)) apart)

-- a number written in its place
pub written-place : {V E : Type 0} (result : Result V E) (old new : BTreeMap UnitService ℕ) (key : UnitService) (now : ℕ)
    → OnOk result (Updates unit_service_order old new key (Some now)) → OnErr result (tree.get unit_service_order old key ≡ None)
    → IsSome (lookup (is_same_unit_service key) old.entries) → HasOnePlace key old.entries new.entries
written-place (Ok v) old new key now updates absent there = placed old new key now updates
written-place (Err e) old new key now updates absent there =
    absurd (cc (subst IsSome (sym (found-key unit_service_order is_same_unit_service same-unit-service key old.entries) ∙ absent) there))

-- one after another
pub placed-twice : (key : UnitService) (old mid new : List (UnitService × ℕ)) → HasOnePlace key old mid → HasOnePlace key mid new
    → HasOnePlace key old new
placed-twice key old mid new first second other =
    second other ∙ by (is_same_unit_service key other) (first other)
  where
    by : (b : Bool) → is_some (lookup (is_same_unit_service other) mid) ≡ (if b then true else is_some (lookup (is_same_unit_service other) old))
        → (if b then true else is_some (lookup (is_same_unit_service other) mid))
        ≡ (if b then true else is_some (lookup (is_same_unit_service other) old))
    by true is = refl
    by false is = is

-- its own key has one
pub own-place : (key : UnitService) (old new : List (UnitService × ℕ)) → HasOnePlace key old new → IsSome (lookup (is_same_unit_service key) new)
own-place key old new one = by (lookup (is_same_unit_service key) new) (one key
    ∙ ap (λ b. if b then true else is_some (lookup (is_same_unit_service key) old)) (unit-service-itself key))
  where
    by : (o : Option ℕ) → is_some o ≡ true → IsSome o
    by None is = absurd (cc is)
    by (Some n) is = search rules

-- nothing is found under a key that the tree lacks
pub no-place : (key : UnitService) (table : List (UnitService × ℕ)) → lookup (λ other. is_eq (unit_service_order key other)) table ≡ None
    → is_some (lookup (is_same_unit_service key) table) ≡ false
no-place key table absent =
    ap is_some (sym (found-key unit_service_order is_same_unit_service same-unit-service key table) ∙ absent)
