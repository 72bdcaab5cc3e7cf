use Rattle.uds_rules.proofs.Promises.{left_out_are_the_rest}
use Rattle.uds_rules.proofs.laws.left_out_are_the_rest.Goals as goal

pub returns : goal.returns
returns c = left_out_are_the_rest
