-- What was gathered is settled, which says no more; then the text is said.
use Rattle.trace_run.proofs.sheet.Sheet.put_whole_where_full.Goals as goal

pub returns : goal.returns
returns g c = λ start said carries. c.put.ensures start said (c.settle.ensures.no_more start said carries)
