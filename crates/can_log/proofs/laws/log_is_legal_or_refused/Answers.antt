use Rattle.can_log.proofs.Promises.{log_is_legal_or_refused}
use Rattle.can_log.proofs.laws.log_is_legal_or_refused.Goals as goal

pub returns : goal.returns
returns c = log_is_legal_or_refused
