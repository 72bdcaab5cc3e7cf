-- Each row is said behind those before it.
use Rattle.std.proofs.Common.{◌≡◌, ◌+◌, ◌-◌, arith}
use Rattle.text_parts.proofs.Promises.{none-said}
use Rattle.trace_pair.specs.ItemTables.{rows_text}
use Rattle.trace_pair.specs.RowStretches.{fold_rows, same_rows}
use Rattle.trace_pair.proofs.Tables.{turn-same, turn-same-end}
use Rattle.trace_pair.proofs.folds.say_same_rows.Goals as goal

pub rows-init : goal.rows-init
rows-init g c =
    let fold = c.args.fold in
    let a : c.args.fold.left + 0 ≡ c.args.fold.left = omega arith in
    let b : c.args.fold.right + 0 ≡ c.args.fold.right = omega arith in
    let all : c.args.fold.count - 0 ≡ c.args.fold.count = omega arith in
    let one = c.args.sessions.left.now in
    let other = c.args.sessions.right.now in
    let is : rows_text one other (same_rows (fold.left + 0) (fold.right + 0) (fold.count - 0)) ≡ rows_text one other (fold_rows fold) =
    (λ i. rows_text one other (same_rows (a i) (b i) (all i))) in
    none-said g.S.TextSink.says c.args.out.now _ _ (g.met.S.TextSink.nothing c.args.out.now) is

pub rows-preserved : goal.rows-preserved
rows-preserved g c =
    turn-same g.S.TextSink.says g.met.S.TextSink.onward c.args.sessions.left.now c.args.sessions.right.now c.args.out.now _
    c.args.fold.left c.args.fold.right c.args.fold.count c.rows.k c.rows.out _ c.rows-test.true c.rows.invariant c.say_item_row.ensures

pub returns : goal.returns
returns g c =
    turn-same-end g.S.TextSink.says g.met.S.TextSink.onward c.args.sessions.left.now c.args.sessions.right.now c.args.out.now _
    c.args.fold.left c.args.fold.right c.args.fold.count c.rows.k c.rows.out c.rows-test.false c.rows.invariant
