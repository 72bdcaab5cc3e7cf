use Rattle.uds_rules.proofs.Promises.{apart_shares_no_message, clash_shares_message}
use Rattle.uds_rules.proofs.laws.apart_shares_no_message.Goals as goal

pub returns : goal.returns
returns c = record { apart = apart_shares_no_message; clash = clash_shares_message }
