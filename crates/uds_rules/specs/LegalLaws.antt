-- Which rules texts spell, and which stand beside one another.
use Rattle.std.specs.Prelude.{◌≡◌, ℕ, List, [], ◌∷◌, ◌++◌, Ok}
use Rattle.uds_rules.specs.Rule.{RuleValue}
use Rattle.uds_rules.specs.Legal.{IsRule, AreRules}
use Rattle.uds_rules.specs.Answers.{CanAdd}
use Rattle.uds_rules.specs.Pattern.{drop_rule, mask_rule}

-- what a text spells as `drop TEXT` is a rule
abbrev pub SpelledDropIsRule : Type 0
SpelledDropIsRule = (text : List ℕ) (rule : RuleValue) → drop_rule text ≡ Ok rule → IsRule rule

-- and what it spells as `mask TEXT`
abbrev pub SpelledMaskIsRule : Type 0
SpelledMaskIsRule = (text : List ℕ) (rule : RuleValue) → mask_rule text ≡ Ok rule → IsRule rule

-- no rules are those of a profile
abbrev pub NoneAreRules : Type 0
NoneAreRules = AreRules []

-- and so are the rules of one with one more that can stand behind them
abbrev pub AddedAreRules : Type 0
AddedAreRules = (rules : List RuleValue) (rule : RuleValue) → AreRules rules → IsRule rule → CanAdd rules rule → AreRules (rules ++ rule ∷ [])
