use Rattle.can_log.proofs.Promises.{finish_reads_end}
use Rattle.can_log.proofs.laws.finish_reads_end.Goals as goal

pub returns : goal.returns
returns c = finish_reads_end
