-- The law is its lemma of the rows of stretches.
use Rattle.trace_pair.proofs.UnfoldedRows.{unfolded_rows_are_those_of_hunks}
use Rattle.trace_pair.proofs.laws.unfolded_rows_are_those_of_hunks.Goals as goal

pub returns : goal.returns
returns c = unfolded_rows_are_those_of_hunks
