-- The law is its lemma of the rows of tables.
use Rattle.trace_pair.proofs.RowsOnce.{each_row_stands_once}
use Rattle.trace_pair.proofs.laws.each_row_stands_once.Goals as goal

pub returns : goal.returns
returns c = each_row_stands_once
