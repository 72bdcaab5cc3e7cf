-- What the rule of a message makes of it is what the rules make.
use Rattle.std.proofs.Common.{sym, subst, ◌∙◌}
use Rattle.uds_rules.specs.Answers.{IsRuled}
use Rattle.uds_rules.proofs.RuleOf.{none_made, rule_found}
use Rattle.uds_rules.proofs.rule_table.RuleTable.apply.Goals as goal

pub make-requires : goal.make-requires
make-requires c =
    (rule_found c.args.self.now _ c.args.message.now c.rule_of.result c.in-Some.place c.index-as_slice-place.result
    c.rule_of.ensures.value c.in-Some.is c.as_slice.ensures.value c.index-as_slice-place.is).speaks

pub returns-in-Ok-clause-ok : goal.returns-in-Ok-clause-ok
returns-in-Ok-clause-ok c =
    let rule = rule_found c.args.self.now _ c.args.message.now c.rule_of.result c.in-Some.place c.index-as_slice-place.result
    c.rule_of.ensures.value c.in-Some.is c.as_slice.ensures.value c.index-as_slice-place.is in
    subst (λ made. IsRuled made c.args.message.now c.in-Ok.ruled c.make.new.room.items) (sym rule.made) c.in-Ok.ensures.ok

pub returns-in-Err-clause-err : goal.returns-in-Err-clause-err
returns-in-Err-clause-err c =
    let rule = rule_found c.args.self.now _ c.args.message.now c.rule_of.result c.in-Some.place c.index-as_slice-place.result
    c.rule_of.ensures.value c.in-Some.is c.as_slice.ensures.value c.index-as_slice-place.is in
    rule.masked ∙ c.in-Err.ensures.err

pub returns-in-None-clause-ok : goal.returns-in-None-clause-ok
returns-in-None-clause-ok c = (none_made c.args.self.now c.args.message.now (sym c.rule_of.ensures.value ∙ c.in-None.is)).0
