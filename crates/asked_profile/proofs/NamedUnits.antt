-- The unit that a run is about.
use Prim.Native.Nat.{zero, suc}
use Rattle.std.proofs.Common.{◌≡◌, ℕ, ◌<◌, true, false, List, [], ◌∷◌, length, Option, Some, None, Result, Ok, Err, inl, inr, refl, ap, sym, ◌∙◌, subst, arith}
use Rattle.std.specs.Prelude.{Contains, bytes_eq, slice_index_or}
use Rattle.std.specs.List.{AllByRecursion}
use Rattle.std.proofs.lemmas.Bool.{cases_Bool}
use Rattle.std.proofs.lemmas.Slice.Eq.{bytes_eq-Decides}
use Rattle.profile.specs.Laws.{AreTwo, AreToldApart}
use Rattle.profile.specs.Units.{UnitValue}
use Rattle.asked_profile.specs.Choice.{chosen_of, unit_named, identifiers_of}
use Rattle.asked_profile.specs.Laws.{ChosenIsNamed, NamedIsChosen, NoneIsWithoutUnits}
use Rattle.asked_profile.specs.declared.choice.ChoiceFault.{ChoiceFault}
use Rattle.asked_profile.specs.declared.choice.RunIdentifiers.{RunIdentifiers}

-- the identifiers that are taken, or others
abbrev taken_or : RunIdentifiers → Result (Option RunIdentifiers) ChoiceFault → RunIdentifiers
taken_or other (Ok (Some taken)) = taken
taken_or other (Ok None) = other
taken_or other (Err fault) = other

named_taken : (units : List UnitValue) (name : List ℕ) (taken : RunIdentifiers) → unit_named units name ≡ Ok (Some taken)
    → (one : UnitValue) × (Contains units one × (one.name ≡ name)) × (taken ≡ identifiers_of one)
named_taken [] name taken is = absurd (cc is)
named_taken (first ∷ rest) name taken is =
    elim (cases_Bool (bytes_eq first.name name)) [
      | inl same ↦ (first, ((zero, omega arith, refl), (bytes_eq-Decides first.name name).0 same), sym (ap (taken_or taken) (rw same at is)))
      | inr other ↦
          (let later = named_taken rest name taken (rw other at is) in
          let stands = later.1.0 in
          (later.0, ((suc stands.0, (let less = stands.1 in omega (arith, less)), stands.2), later.1.1), later.2))
    ]

pub chosen_is_named : ChosenIsNamed
chosen_is_named [] None taken is = absurd (cc is)
chosen_is_named (one ∷ []) None taken is = (one, refl, sym (ap (taken_or taken) is))
chosen_is_named (one ∷ other ∷ rest) None taken is = absurd (cc is)
chosen_is_named [] (Some name) taken is = absurd (cc is)
chosen_is_named (one ∷ rest) (Some name) taken is = named_taken (one ∷ rest) name taken is

-- what holds of all holds of one of them
of_one : (P : UnitValue → Type 0) (units : List UnitValue) (one : UnitValue) (place : ℕ) → AllByRecursion P units → place < length units
    → slice_index_or units place one ≡ one → P one
of_one P [] one place all less is = absurd (omega arith)
of_one P (first ∷ rest) one zero all less is = subst P is all.0
of_one P (first ∷ rest) one (suc place) all less is = of_one P rest one place all.1 (omega arith) is

named_found : (units : List UnitValue) (name : List ℕ) (one : UnitValue) (place : ℕ) → AreToldApart units → place < length units
    → slice_index_or units place one ≡ one → one.name ≡ name → unit_named units name ≡ Ok (Some (identifiers_of one))
named_found [] name one place apart less is same = absurd (omega arith)
named_found (first ∷ rest) name one zero apart less is same =
    let equal : bytes_eq first.name name ≡ true = (bytes_eq-Decides first.name name).1 (ap (λ one. one.name) is ∙ same) in
    rw equal (ap (λ one. Ok (Some (identifiers_of one))) is)
named_found (first ∷ rest) name one (suc place) apart less is same =
    elim (cases_Bool (bytes_eq first.name name)) [
      | inl equal ↦
          (let two = of_one (AreTwo first) rest one place apart.0 (omega arith) is in
          absurd (two.names ((bytes_eq-Decides first.name name).0 equal ∙ sym same)))
      | inr other ↦ rw other (named_found rest name one place apart.1 (omega arith) is same)
    ]

pub named_is_chosen : NamedIsChosen
named_is_chosen units None one apart is = ap (λ units. chosen_of units None) is
named_is_chosen [] (Some name) one apart is = absurd (let less = is.0.1 in omega (arith, less))
named_is_chosen (first ∷ rest) (Some name) one apart is = named_found (first ∷ rest) name one is.0.0 apart is.0.1 is.0.2 is.1

never_none : (units : List UnitValue) (name : List ℕ) → unit_named units name ≡ Ok None → ⊥
never_none [] name is = cc is
never_none (first ∷ rest) name is =
    elim (cases_Bool (bytes_eq first.name name)) [
      | inl same ↦ (let found : Ok (Some (identifiers_of first)) ≡ Ok None = rw same at is in cc found)
      | inr other ↦ never_none rest name (rw other at is)
    ]

pub none_is_without_units : NoneIsWithoutUnits
none_is_without_units [] None is = (refl, refl)
none_is_without_units (one ∷ []) None is = absurd (cc is)
none_is_without_units (one ∷ other ∷ rest) None is = absurd (cc is)
none_is_without_units [] (Some name) is = absurd (cc is)
none_is_without_units (one ∷ rest) (Some name) is = absurd (never_none (one ∷ rest) name is)
