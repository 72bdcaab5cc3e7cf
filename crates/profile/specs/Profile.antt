-- What a document asks for.
use Rattle.std.specs.Prelude.{List, Option, Some, None, Result, Ok, Err}
use Rattle.toml.specs.Data.{Members}
use Rattle.uds_rules.specs.Rule.{RuleValue}
use Rattle.profile.specs.Wrong.{WrongValue}
use Rattle.profile.specs.Keys.{wrong_keys}
use Rattle.profile.specs.ProfileRules.{profile_rules}
use Rattle.profile.specs.Units.{UnitValue, profile_units}

-- A profile: the rules of its sessions, and its units.
pub record ProfileValue : Type 0 where
  pub rules : List RuleValue
  pub units : List UnitValue

-- rules and units, or what is wrong with the first of them that has something wrong
abbrev pub both : Result (List RuleValue) WrongValue → Result (List UnitValue) WrongValue → Result ProfileValue WrongValue
both (Err wrong) units = Err wrong
both (Ok rules) (Err wrong) = Err wrong
both (Ok rules) (Ok units) = Ok (record { rules = rules; units = units })

-- what a document is of which this is wrong
abbrev pub unless : Option WrongValue → Result ProfileValue WrongValue → Result ProfileValue WrongValue
unless None profile = profile
unless (Some wrong) profile = Err wrong

-- The profile that a document is, or the first thing that is wrong in it: a key by itself, the rules beside one
-- another, a unit.
abbrev pub profile_of : Members → Result ProfileValue WrongValue
profile_of document = unless (wrong_keys document) (both (profile_rules document) (profile_units document))
