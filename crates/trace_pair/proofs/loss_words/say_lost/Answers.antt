-- Each row adds the loss that it tells, if it tells one.
use Rattle.std.proofs.Common.{ℕ, ◌+◌, ◌-◌, List, Option, length, take, drop, ap, subst, sym, ◌∙◌, arith, refl}
use Rattle.std.specs.Prelude.{slice_get}
use Rattle.std.specs.List.{flat_map}
use Rattle.text_parts.proofs.Promises.{none-said, same-rest}
use Rattle.trace_report.specs.Rows.{RowValue}
use Rattle.trace_pair.specs.Losses.{loss_line}
use Rattle.trace_pair.specs.proving.Losing.{loss_if, lost, lost_if}
use Rattle.trace_pair.proofs.LostRows.{count-next, lost-end, lost-next, turn-loss, turn-lost-end}
use Rattle.trace_pair.proofs.loss_words.say_lost.Goals as goal

pub rows-init : goal.rows-init
rows-init g c = record {
  few = omega arith;
  so_far = omega arith;
  left = none-said g.S.TextSink.says c.args.out.now _ _ (g.met.S.TextSink.nothing c.args.out.now) refl;
}

pub rows-preserved : goal.rows-preserved
rows-preserved g c =
    let says = g.S.TextSink.says in
    let rows = c.args.rows.now in
    let at = c.rows.at in
    let to = c.args.to in
    let inv = c.rows.invariant in
    let first = lost-next rows at to (slice_get rows at) c.rows-test.true refl in
    let next = ap (λ (l : List RowValue). length l) first ∙ count-next (slice_get rows at) (lost (take (to - (at + 1)) (drop (at + 1) rows))) in
    let one = c.lost_in-told.ensures.value ∙ ap lost_if c.row-row.ensures in
    record {
      few = omega (arith, inv.few, c.lost_in-told.ensures.one);
      so_far = omega (arith, inv.so_far, next, one);
      left = same-rest says c.args.out.now c.say_loss_if.new.out _ _ _
          (ap (λ (n : ℕ). flat_map (loss_line c.args.log) (take (20 - (c.rows.told + n)) (lost (take (to - (at + 1)) (drop (at + 1) rows))))) (sym one))
          (turn-loss says g.met.S.TextSink.onward c.args.log c.args.out.now _ c.rows.told (slice_get rows at) (lost (take (to - (at + 1)) (drop (at + 1) rows))) c.rows.out c.say_loss_if.new.out
          (same-rest says c.args.out.now c.rows.out _ _ _ (ap (λ (l : List RowValue). flat_map (loss_line c.args.log) (take (20 - c.rows.told) l)) first) inv.left)
          (subst (λ (there : Option RowValue). says c.rows.out (loss_if c.args.log c.rows.told there) c.say_loss_if.new.out) c.row-row.ensures c.say_loss_if.ensures));
    }

pub returns-clause-text : goal.returns-clause-text
returns-clause-text g c =
    turn-lost-end g.S.TextSink.says g.met.S.TextSink.onward c.args.log c.args.out.now _ c.rows.told _ c.rows.out
    (lost-end c.args.rows.now c.rows.at c.args.to c.rows-test.false) c.rows.invariant.left

pub returns-clause-count : goal.returns-clause-count
returns-clause-count g c =
    let none = ap (λ (l : List RowValue). length l) (lost-end c.args.rows.now c.rows.at c.args.to c.rows-test.false) in
    omega (arith, c.rows.invariant.so_far, none)
