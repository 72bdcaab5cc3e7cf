-- What is left of both is compared.
use Rattle.std.proofs.Common.{◌≡◌, drop}
use Rattle.uds_rules.specs.Rule.{begins_with}
use Rattle.uds_rules.proofs.rule.begins_with.Given as goal

abbrev pub invariant-bytes : goal.invariant-bytes
invariant-bytes l = begins_with l.prefix l.message ≡ begins_with (drop l.at l.prefix) (drop l.at l.message)
