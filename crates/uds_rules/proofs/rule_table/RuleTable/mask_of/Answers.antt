-- The mask of the rule of a message is that of the rules.
use Rattle.std.proofs.Common.{sym, ◌∙◌}
use Rattle.uds_rules.proofs.Beginnings.{found_within}
use Rattle.uds_rules.proofs.RuleOf.{none_made, rule_found}
use Rattle.uds_rules.proofs.rule_table.RuleTable.mask_of.Goals as goal

pub returns-in-Some-clause-value : goal.returns-in-Some-clause-value
returns-in-Some-clause-value c =
    let rule = rule_found c.args.self.now _ c.args.message.now c.rule_of.result c.in-Some.place c.index-as_slice-place.result
    c.rule_of.ensures.value c.in-Some.is c.as_slice.ensures.value c.index-as_slice-place.is in
    c.mask.ensures ∙ sym rule.mask

pub returns-in-Some-clause-within : goal.returns-in-Some-clause-within
returns-in-Some-clause-within c = found_within c.args.self.now c.args.message.now c.mask.result (returns-in-Some-clause-value c)

pub returns-in-None-clause-value : goal.returns-in-None-clause-value
returns-in-None-clause-value c = sym (none_made c.args.self.now c.args.message.now (sym c.rule_of.ensures.value ∙ c.in-None.is)).1
