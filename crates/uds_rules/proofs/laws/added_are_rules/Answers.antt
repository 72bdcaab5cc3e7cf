use Rattle.uds_rules.proofs.Promises.{none_are_rules, added_are_rules}
use Rattle.uds_rules.proofs.laws.added_are_rules.Goals as goal

pub returns : goal.returns
returns c = record { none = none_are_rules; added = added_are_rules }
