-- A list that is no longer than the front is its own front.
use Rattle.std.proofs.Common.{sym, arith}
use Rattle.std.proofs.lemmas.List.{length-take-le, take_all}
use Rattle.trace_canon.proofs.credit_lines.front.Goals as goal

pub slice_bounds-result-end : goal.slice_bounds-result-end
slice_bounds-result-end c = sym (length-take-le 63 c.args.lines.now (omega arith))

pub returns-then-lines-le-MOST_LATER_UNITS : goal.returns-then-lines-le-MOST_LATER_UNITS
returns-then-lines-le-MOST_LATER_UNITS c = sym (take_all 63 c.args.lines.now (omega arith))
