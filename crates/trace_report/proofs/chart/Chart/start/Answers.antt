-- Nothing is said of no rows.
use Rattle.trace_report.proofs.chart.Chart.start.Goals as goal

pub returns : goal.returns
returns c = λ rules. record { blocks = c.no_blocks.ensures; tally = c.start.ensures; times = c.start-2.ensures; echoes = c.start-3.ensures rules }
