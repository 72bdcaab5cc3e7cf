-- A message that is shorter than a prefix doesn't begin with it.
use Rattle.std.proofs.Common.{inl, inr, sym, arith}
use Rattle.std.proofs.lemmas.Bool.{cases_Bool}
use Rattle.uds_rules.specs.Rule.{begins_with}
use Rattle.uds_rules.proofs.Beginnings.{prefix_within}
use Rattle.uds_rules.proofs.rule.begins_with.Goals as goal

pub returns-then-prefix-message : goal.returns-then-prefix-message
returns-then-prefix-message c =
    let prefix = c.args.prefix.now in
    let message = c.args.message.now in
    elim (cases_Bool (begins_with prefix message)) [
      | inl begins ↦ absurd (let within = prefix_within prefix message begins in omega (arith, within, c.if-prefix-message.true))
      | inr other ↦ sym other
    ]
