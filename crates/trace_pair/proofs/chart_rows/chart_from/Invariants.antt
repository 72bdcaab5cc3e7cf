-- The place is that of the last request so far, or where a chart begins at the earliest.
use Rattle.trace_pair.proofs.ChartPlaces.{Latest}
use Rattle.trace_pair.proofs.chart_rows.chart_from.Given as goal

abbrev pub invariant-rows : goal.invariant-rows
invariant-rows l = Latest l.item l.rows l.low l.end l.at l.from
