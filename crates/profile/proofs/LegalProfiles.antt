-- What holds of each profile that a document is.
use Rattle.std.proofs.Common.{◌≡◌, List, Option, Some, None, Result, Ok, Err, refl, ap}
use Rattle.uds_rules.specs.Rule.{RuleValue}
use Rattle.profile.specs.Keys.{wrong_keys}
use Rattle.profile.specs.Profile.{ProfileValue, both, unless}
use Rattle.profile.specs.ProfileRules.{profile_rules}
use Rattle.profile.specs.Units.{UnitValue, profile_units}
use Rattle.profile.specs.Wrong.{WrongValue}
use Rattle.profile.specs.Laws.{ProfileHasLegalRules, ProfileHasLegalUnits, RulesAreInOrder, UnitsAreInOrder}
use Rattle.profile.proofs.OrderedRules.{rules_legal, rules_ordered}
use Rattle.profile.proofs.LegalUnits.{units_legal}
use Rattle.profile.proofs.FirstWrong.{units_ordered}

-- the rules and units of a profile that is read, or others
abbrev rules_or : List RuleValue → Result ProfileValue WrongValue → List RuleValue
rules_or other (Ok profile) = profile.rules
rules_or other (Err wrong) = other

abbrev units_or : List UnitValue → Result ProfileValue WrongValue → List UnitValue
units_or other (Ok profile) = profile.units
units_or other (Err wrong) = other

-- a profile is read where nothing is wrong with its keys, its rules and its units
parts_are : (wrong : Option WrongValue) (rules : Result (List RuleValue) WrongValue) (units : Result (List UnitValue) WrongValue) (profile : ProfileValue)
    → unless wrong (both rules units) ≡ Ok profile → (wrong ≡ None) × (rules ≡ Ok profile.rules) × (units ≡ Ok profile.units)
parts_are (Some wrong) rules units profile is = absurd (cc is)
parts_are None (Err wrong) units profile is = absurd (cc is)
parts_are None (Ok rules) (Err wrong) profile is = absurd (cc is)
parts_are None (Ok rules) (Ok units) profile is = (refl, ap (λ read. Ok (rules_or rules read)) is, ap (λ read. Ok (units_or units read)) is)

pub profile_has_legal_rules : ProfileHasLegalRules
profile_has_legal_rules document profile is =
    let parts = parts_are (wrong_keys document) (profile_rules document) (profile_units document) profile is in
    rules_legal document profile.rules parts.1

pub profile_has_legal_units : ProfileHasLegalUnits
profile_has_legal_units document profile is =
    let parts = parts_are (wrong_keys document) (profile_rules document) (profile_units document) profile is in
    units_legal document profile.units parts.2

pub rules_are_in_order : RulesAreInOrder
rules_are_in_order document profile is =
    let parts = parts_are (wrong_keys document) (profile_rules document) (profile_units document) profile is in
    rules_ordered document profile.rules parts.0 parts.1

pub units_are_in_order : UnitsAreInOrder
units_are_in_order document profile is =
    let parts = parts_are (wrong_keys document) (profile_rules document) (profile_units document) profile is in
    units_ordered document profile.units parts.2
