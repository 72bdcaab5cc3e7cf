use Rattle.can_log.proofs.Promises.{refused_log_has_no_meanings}
use Rattle.can_log.proofs.laws.refused_log_has_no_meanings.Goals as goal

pub returns : goal.returns
returns c = refused_log_has_no_meanings
