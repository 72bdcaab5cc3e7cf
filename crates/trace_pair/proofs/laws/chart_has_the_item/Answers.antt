-- The law is its lemma of the rows of a chart.
use Rattle.trace_pair.proofs.ChartItems.{has-the-item}
use Rattle.trace_pair.proofs.laws.chart_has_the_item.Goals as goal

pub returns : goal.returns
returns c = has-the-item
