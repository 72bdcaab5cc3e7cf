-- What holds of the unit that a run is about.
use Rattle.std.specs.Prelude.{◌≡◌, ℕ, List, [], ◌∷◌, Option, Some, None, Ok, Contains}
use Rattle.profile.specs.Laws.{AreToldApart}
use Rattle.profile.specs.Units.{UnitValue}
use Rattle.asked_profile.specs.Choice.{chosen_of, identifiers_of}
use Rattle.asked_profile.specs.declared.choice.RunIdentifiers.{RunIdentifiers}

-- A unit is asked for: it is the only one where none is named, and else one that has this name.
abbrev pub IsAskedFor : List UnitValue → Option (List ℕ) → UnitValue → Type 0
IsAskedFor units None one = units ≡ one ∷ []
IsAskedFor units (Some name) one = Contains units one × (one.name ≡ name)

-- the identifiers that are taken are those of a unit that is asked for
abbrev pub ChosenIsNamed : Type 0
ChosenIsNamed = (units : List UnitValue) (only : Option (List ℕ)) (taken : RunIdentifiers) → chosen_of units only ≡ Ok (Some taken)
    → (one : UnitValue) × IsAskedFor units only one × (taken ≡ identifiers_of one)

-- and of units of a profile, no two of which have one name, the one that is asked for is taken
abbrev pub NamedIsChosen : Type 0
NamedIsChosen = (units : List UnitValue) (only : Option (List ℕ)) (one : UnitValue) → AreToldApart units → IsAskedFor units only one
    → chosen_of units only ≡ Ok (Some (identifiers_of one))

-- none is taken only where there is no unit and none is named
abbrev pub NoneIsWithoutUnits : Type 0
NoneIsWithoutUnits = (units : List UnitValue) (only : Option (List ℕ)) → chosen_of units only ≡ Ok None → (units ≡ []) × (only ≡ None)
