use Rattle.trace_log.proofs.Limits.{reads_by_pieces, writes_by_pieces}
use Rattle.trace_log.proofs.laws.pieces_are_short.Goals as goal

pub returns-clause-reads : goal.returns-clause-reads
returns-clause-reads c = reads_by_pieces

pub returns-clause-writes : goal.returns-clause-writes
returns-clause-writes c = writes_by_pieces
