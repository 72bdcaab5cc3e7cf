-- The law is its lemma of counted rows.
use Rattle.trace_pair.proofs.CountedRows.{heading_counts_the_rows}
use Rattle.trace_pair.proofs.laws.heading_counts_the_rows.Goals as goal

pub returns : goal.returns
returns c = heading_counts_the_rows
