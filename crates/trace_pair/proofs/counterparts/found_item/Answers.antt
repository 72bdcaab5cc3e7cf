-- The row is the one that has the item.
use Rattle.std.proofs.Common.{◌∙◌}
use Rattle.trace_pair.proofs.counterparts.found_item.Goals as goal

pub returns-clause-other : goal.returns-clause-other
returns-clause-other c = c.is_other_in.ensures ∙ c.row_in_chart-row.ensures.other

pub returns-clause-marks : goal.returns-clause-marks
returns-clause-marks c = c.marks_in.ensures ∙ c.row_in_chart-row.ensures.marks
