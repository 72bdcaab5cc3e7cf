-- How a rule is spelled.
use Rattle.std.specs.Prelude.{ℕ, List, ◌++◌, codes}
use Rattle.trace_text.specs.Words.{bytes_text}
use Rattle.uds_rules.specs.Pattern.{mask_text}
use Rattle.uds_rules.specs.Rule.{RuleValue}
use Rattle.uds_rules.specs.declared.rule.Deed.{Deed}
use Rattle.uds_rules.specs.declared.rule.Deed.TheVariants as deed

-- a rule that does this with the messages of a prefix, as a profile has it, its digits in upper case
abbrev pub deed_text : Deed → List ℕ → List ℕ
deed_text deed.Drop prefix = codes "drop " ++ bytes_text prefix
deed_text (deed.Mask mask) prefix = codes "mask " ++ bytes_text prefix ++ mask_text mask

-- a rule, as a profile has it
abbrev pub rule_text : RuleValue → List ℕ
rule_text rule = deed_text rule.deed rule.prefix
