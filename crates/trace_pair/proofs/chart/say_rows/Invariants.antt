-- What is said so far and the text of the rest are that of all rows.
use Rattle.std.proofs.Common.{◌-◌, None, max, take, drop}
use Rattle.text_parts.proofs.Promises.{IsLeft}
use Rattle.trace_pair.specs.FirstDifference.{chart_rows_text}
use Rattle.trace_pair.specs.proving.Marks.{charted_of}
use Rattle.trace_pair.proofs.chart.say_rows.Given as goal

abbrev pub invariant-rows : goal.invariant-rows
invariant-rows g l =
    IsLeft g.S.TextSink.says l.initial.out (chart_rows_text (charted_of l.chart) l.origin l.front l.last (take (l.fn.around.to - l.at) (drop l.at l.rows)))
    (chart_rows_text (charted_of l.chart) l.origin None (max l.fn.around.item 1) (take (l.fn.around.to - l.fn.around.from) (drop l.fn.around.from l.rows))) l.out
