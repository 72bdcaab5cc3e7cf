use Rattle.uds_rules.proofs.Promises.{under_goes_on, left_out_goes_on}
use Rattle.uds_rules.proofs.laws.under_goes_on.Goals as goal

pub returns : goal.returns
returns c = record { messages = under_goes_on; count = left_out_goes_on }
