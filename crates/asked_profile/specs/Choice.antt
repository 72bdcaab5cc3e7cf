-- Which unit of a profile a run is about.
use Rattle.std.specs.Prelude.{ℕ, List, [], ◌∷◌, ◌++◌, codes, bytes_eq, Option, Some, None, Result, Ok, Err, if◌then◌else◌}
use Rattle.std.specs.List.{flat_map}
use Rattle.profile.specs.Units.{UnitValue}
use Rattle.asked_profile.specs.declared.choice.ChoiceFault.{ChoiceFault}
use Rattle.asked_profile.specs.declared.choice.ChoiceFault.TheVariants.{NoUnits, NoSuchUnit, SeveralUnits}
use Rattle.asked_profile.specs.declared.choice.RunIdentifiers.{RunIdentifiers}

-- the identifiers of a unit
abbrev pub identifiers_of : UnitValue → RunIdentifiers
identifiers_of one = record { tester = one.tester; unit = one.unit; functional = one.functional }

-- those of the unit of this name
abbrev pub unit_named : List UnitValue → List ℕ → Result (Option RunIdentifiers) ChoiceFault
unit_named [] name = Err NoSuchUnit
unit_named (one ∷ rest) name = if bytes_eq one.name name then Ok (Some (identifiers_of one)) else unit_named rest name

-- those of the only unit, where there is one; where there is none, they are not the profile's to say
abbrev pub alone : List UnitValue → Result (Option RunIdentifiers) ChoiceFault
alone [] = Ok None
alone (one ∷ []) = Ok (Some (identifiers_of one))
alone (one ∷ other ∷ rest) = Err SeveralUnits

-- The identifiers of a run under a profile with these units: those of the one that is named, or of the only one. None where
-- there is no unit. A name has to be one of theirs, and where there are several, one has to be named.
abbrev pub chosen_of : List UnitValue → Option (List ℕ) → Result (Option RunIdentifiers) ChoiceFault
chosen_of units None = alone units
chosen_of [] (Some name) = Err NoUnits
chosen_of (one ∷ rest) (Some name) = unit_named (one ∷ rest) name

-- the name of a unit behind another one
abbrev pub name_behind : UnitValue → List ℕ
name_behind one = codes ", " ++ one.name

-- the names of units, a comma between them
abbrev pub unit_names : List UnitValue → List ℕ
unit_names [] = []
unit_names (one ∷ rest) = one.name ++ flat_map name_behind rest
