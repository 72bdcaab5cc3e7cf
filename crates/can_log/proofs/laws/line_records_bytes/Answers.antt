use Rattle.can_log.proofs.Promises.{line_records_bytes}
use Rattle.can_log.proofs.laws.line_records_bytes.Goals as goal

pub returns : goal.returns
returns c = line_records_bytes
