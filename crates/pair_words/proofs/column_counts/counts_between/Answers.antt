-- Each column adds what it counts.
use Rattle.std.proofs.Common.{◌≡◌, ◌-◌, List, length, take, drop, ap, arith}
use Rattle.std.proofs.lemmas.List.{length-drop, length-take}
use Rattle.byte_columns.specs.declared.column.Column.{Column}
use Rattle.byte_columns.specs.Columns.{differing}
use Rattle.pair_words.specs.ColumnLines.{counted}
use Rattle.pair_words.proofs.CountedColumns.{differing-first, length-first, none-left}
use Rattle.pair_words.proofs.column_counts.counts_between.Goals as goal

pub columns-init : goal.columns-init
columns-init c = record { few = omega arith; fewer = omega arith; all = omega arith; differ = omega arith }

pub columns-preserved : goal.columns-preserved
columns-preserved c =
    let inv = c.columns.invariant in
    let columns = c.args.columns.now in
    let more = length-first c.args.shown columns c.args.to c.columns.at c.column-column.result c.columns-test.true c.column-column.ensures in
    let others = differing-first c.args.shown columns c.args.to c.columns.at c.column-column.result c.columns-test.true c.column-column.ensures in
    record {
      few = omega (arith, inv.few, c.one_if_counted-all.ensures.one, c.columns.auto.at);
      fewer = omega (arith, inv.fewer, c.one_if_differing-differing.ensures.one, c.columns.auto.at);
      all = omega (arith, inv.all, more, c.one_if_counted-all.ensures.value);
      differ = omega (arith, inv.differ, others, c.one_if_differing-differing.ensures.value);
    }

pub returns-clause-all : goal.returns-clause-all
returns-clause-all c =
    let none = ap (λ (l : List Column). length l) (none-left c.args.shown c.args.columns.now c.args.to c.columns.at c.columns-test.false) in
    omega (arith, c.columns.invariant.all, none)

pub returns-clause-differing : goal.returns-clause-differing
returns-clause-differing c =
    let none = ap differing (none-left c.args.shown c.args.columns.now c.args.to c.columns.at c.columns-test.false) in
    omega (arith, c.columns.invariant.differ, none)

pub returns-clause-others : goal.returns-clause-others
returns-clause-others c =
    let piece = take (c.args.to - c.args.from) (drop c.args.from c.args.columns.now) in
    let none = ap (λ (l : List Column). length l) (none-left c.args.shown c.args.columns.now c.args.to c.columns.at c.columns-test.false) in
    let span : length piece ≡ c.args.to - c.args.from =
    omega (arith, length-take (c.args.to - c.args.from) (drop c.args.from c.args.columns.now), length-drop c.args.from c.args.columns.now, c.requires.inside) in
    omega (arith, c.saturating_sub.ensures, span, c.columns.invariant.all, none)
