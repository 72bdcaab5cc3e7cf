-- The law is its lemma of the items that are left.
use Rattle.trace_pair.proofs.LeftItems.{chart_counts_the_run}
use Rattle.trace_pair.proofs.laws.chart_counts_the_run.Goals as goal

pub returns : goal.returns
returns c = chart_counts_the_run
