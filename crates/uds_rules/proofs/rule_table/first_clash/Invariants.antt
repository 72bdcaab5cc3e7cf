use Rattle.std.proofs.Common.{◌≡◌, ◌+◌, drop, option_map}
use Rattle.uds_rules.specs.Legal.{clash_in}
use Rattle.uds_rules.proofs.rule_table.first_clash.Given as goal

abbrev pub invariant-rules : goal.invariant-rules
invariant-rules l = record {
  place : l.place ≡ l.other-index;
  rest : clash_in l.rules l.rule.prefix ≡ option_map (λ place. l.place + place) (clash_in (drop l.other-index l.rules) l.rule.prefix);
}
