-- Each row adds the loss that it tells, if it tells one.
use Rattle.std.proofs.Common.{◌+◌, ◌-◌, List, length, take, drop, ap, ◌∙◌, arith, refl}
use Rattle.std.specs.Prelude.{slice_get}
use Rattle.trace_report.specs.Rows.{RowValue}
use Rattle.trace_pair.specs.proving.Losing.{lost, lost_if}
use Rattle.trace_pair.proofs.LostRows.{count-next, lost-end, lost-next}
use Rattle.trace_pair.proofs.losses.count_lost.Goals as goal

pub rows-preserved : goal.rows-preserved
rows-preserved c =
    let rows = c.args.rows.now in
    let at = c.rows.at in
    let to = c.args.to in
    let next = ap (λ (l : List RowValue). length l) (lost-next rows at to (slice_get rows at) c.rows-test.true refl) ∙ count-next (slice_get rows at) (lost (take (to - (at + 1)) (drop (at + 1) rows))) in
    let one = c.lost_in-losses.ensures.value ∙ ap lost_if c.row.ensures in
    record {
      few = omega (arith, c.rows.invariant.few, c.lost_in-losses.ensures.one);
      so_far = omega (arith, c.rows.invariant.so_far, next, one);
    }

pub returns : goal.returns
returns c =
    let none = ap (λ (l : List RowValue). length l) (lost-end c.args.rows.now c.rows.at c.args.to c.rows-test.false) in
    omega (arith, c.rows.invariant.so_far, none)
