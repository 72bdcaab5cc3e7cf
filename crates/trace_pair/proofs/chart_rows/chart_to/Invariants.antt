-- No request stands from the second item on up to the place of the loop.
use Rattle.trace_pair.proofs.ChartPlaces.{NoneTo}
use Rattle.trace_pair.proofs.chart_rows.chart_to.Given as goal

abbrev pub invariant-rows : goal.invariant-rows
invariant-rows l = NoneTo l.item l.rows l.at
