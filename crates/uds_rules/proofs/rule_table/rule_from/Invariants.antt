use Rattle.std.proofs.Common.{◌≡◌, ◌+◌, drop, option_map}
use Rattle.uds_rules.specs.Rule.{rule_of}
use Rattle.uds_rules.proofs.rule_table.rule_from.Given as goal

abbrev pub invariant-rules : goal.invariant-rules
invariant-rules l =
    option_map (λ place. l.start + place) (rule_of (drop l.start l.rules) l.message)
    ≡ option_map (λ place. l.at + place) (rule_of (drop l.at l.rules) l.message)
