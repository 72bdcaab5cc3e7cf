-- What calls answer.
use Rattle.std.specs.Prelude.{◌≡◌, ℕ, ◌<◌, List, length, Option, Some, None}
use Rattle.uds_rules.specs.Rule.{RuleValue}
use Rattle.uds_rules.specs.Legal.{clash_in}
use Rattle.uds_rules.specs.declared.rules.Ruled.{Ruled}
use Rattle.uds_rules.specs.declared.rules.Ruled.TheVariants as as_ruled
use Rattle.uds_rules.specs.declared.rules.RulesFault.{RulesFault}
use Rattle.uds_rules.specs.declared.rules.RulesFault.TheVariants as fault

-- This is made of a message: the message itself, what lies in the room, or none.
abbrev pub IsRuled : Option (List ℕ) → List ℕ → Ruled → List ℕ → Type 0
IsRuled made message as_ruled.AsItIs room = made ≡ Some message
IsRuled made message as_ruled.Masked room = made ≡ Some room
IsRuled made message as_ruled.LeftOut room = made ≡ None

-- a rule can stand behind these: there are fewer than 64, and it is apart from each
pub record CanAdd (rules : List RuleValue) (rule : RuleValue) : Type 0 where
  pub few : length rules < 64
  pub apart : clash_in rules rule.prefix ≡ None

-- why it can't, the first reason that applies
abbrev pub CannotAdd : List RuleValue → RuleValue → RulesFault → Type 0
CannotAdd rules rule fault.TooMany = length rules ≡ 64
CannotAdd rules rule (fault.Clash place) = (length rules < 64) × (clash_in rules rule.prefix ≡ Some place)
