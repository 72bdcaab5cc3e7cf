-- What is said so far and the rows of the rest are those of all items.
use Rattle.std.proofs.Common.{◌+◌, ◌-◌}
use Rattle.text_parts.proofs.Promises.{IsLeft}
use Rattle.trace_pair.specs.ItemTables.{rows_text}
use Rattle.trace_pair.specs.RowStretches.{fold_rows, same_rows}
use Rattle.trace_pair.proofs.folds.say_same_rows.Given as goal

abbrev pub invariant-rows : goal.invariant-rows
invariant-rows g l =
    IsLeft g.S.TextSink.says l.initial.out (rows_text l.sessions.left.now l.sessions.right.now (same_rows (l.fold.left + l.k) (l.fold.right + l.k) (l.fold.count - l.k)))
    (rows_text l.sessions.left.now l.sessions.right.now (fold_rows l.fold)) l.out
