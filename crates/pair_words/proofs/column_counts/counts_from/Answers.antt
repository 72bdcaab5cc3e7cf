-- The columns are those of the lines.
use Rattle.std.proofs.Common.{◌≡◌, ◌+◌, ◌-◌, List, length, take, drop, ap, sym, ◌∙◌, arith}
use Rattle.byte_columns.specs.declared.column.Column.{Column}
use Rattle.byte_columns.specs.Columns.{differing}
use Rattle.pair_words.specs.ColumnLines.{counted, uncounted}
use Rattle.pair_words.proofs.CountedColumns.{lines-cut, start}
use Rattle.pair_words.proofs.column_counts.counts_from.Goals as goal

pub returns-clause-all : goal.returns-clause-all
returns-clause-all c =
    let columns = c.args.columns.now in
    let from : c.min-from.result ≡ start c.args.columns.now c.args.first = omega (arith, c.min-from.ensures, c.columns_in_lines-most.ensures.few) in
    let to : c.min-to.result ≡ start c.args.columns.now (c.args.first + c.args.count) = omega (arith, c.min-to.ensures, c.columns_in_lines-most.ensures.few) in
    c.counts_between.ensures.all ∙ ap (λ (l : List Column). length (counted c.args.shown l))
    ((λ i. take (to i - from i) (drop (from i) columns)) ∙ sym (lines-cut columns c.args.count c.args.first c.requires))

pub returns-clause-differing : goal.returns-clause-differing
returns-clause-differing c =
    let columns = c.args.columns.now in
    let from : c.min-from.result ≡ start c.args.columns.now c.args.first = omega (arith, c.min-from.ensures, c.columns_in_lines-most.ensures.few) in
    let to : c.min-to.result ≡ start c.args.columns.now (c.args.first + c.args.count) = omega (arith, c.min-to.ensures, c.columns_in_lines-most.ensures.few) in
    c.counts_between.ensures.differing ∙ ap (λ (l : List Column). differing (counted c.args.shown l))
    ((λ i. take (to i - from i) (drop (from i) columns)) ∙ sym (lines-cut columns c.args.count c.args.first c.requires))

pub returns-clause-others : goal.returns-clause-others
returns-clause-others c =
    let columns = c.args.columns.now in
    let from : c.min-from.result ≡ start c.args.columns.now c.args.first = omega (arith, c.min-from.ensures, c.columns_in_lines-most.ensures.few) in
    let to : c.min-to.result ≡ start c.args.columns.now (c.args.first + c.args.count) = omega (arith, c.min-to.ensures, c.columns_in_lines-most.ensures.few) in
    c.counts_between.ensures.others ∙ ap (uncounted c.args.shown)
    ((λ i. take (to i - from i) (drop (from i) columns)) ∙ sym (lines-cut columns c.args.count c.args.first c.requires))
