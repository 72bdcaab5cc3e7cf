use Rattle.uds_rules.proofs.Promises.{prefix_is_read_back, pattern_is_read_back, read_as_spelled}
use Rattle.uds_rules.proofs.laws.pattern_is_read_back.Goals as goal

pub returns : goal.returns
returns c = record { prefix = prefix_is_read_back; pattern = pattern_is_read_back; spelled = read_as_spelled }
