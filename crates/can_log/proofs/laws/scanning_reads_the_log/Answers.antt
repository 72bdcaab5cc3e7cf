use Rattle.can_log.proofs.Promises.{scanning_reads_the_log}
use Rattle.can_log.proofs.laws.scanning_reads_the_log.Goals as goal

pub returns : goal.returns
returns c = scanning_reads_the_log
