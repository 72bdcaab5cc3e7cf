use Rattle.can_log.proofs.Promises.{scan_reads_on}
use Rattle.can_log.proofs.laws.scan_reads_on.Goals as goal

pub returns : goal.returns
returns c = scan_reads_on
