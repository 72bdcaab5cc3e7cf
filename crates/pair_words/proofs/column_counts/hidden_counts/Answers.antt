-- The columns are those behind all lines.
use Rattle.std.proofs.Common.{◌-◌, List, length, take, drop, ap, ◌∙◌}
use Rattle.byte_columns.specs.declared.column.Column.{Column}
use Rattle.byte_columns.specs.Columns.{differing}
use Rattle.pair_words.specs.ColumnLines.{counted, uncounted}
use Rattle.pair_words.proofs.CountedColumns.{hidden-cut}
use Rattle.pair_words.proofs.column_counts.hidden_counts.Goals as goal

pub returns-clause-all : goal.returns-clause-all
returns-clause-all c =
    let columns = c.args.columns.now in
    c.counts_between.ensures.all ∙ ap (λ (l : List Column). length (counted c.args.shown l))
    ((λ i. take (c.len.ensures.value i - c.columns_in_lines.result) (drop c.columns_in_lines.result columns)) ∙ hidden-cut columns c.columns_in_lines.result c.columns_in_lines.ensures.few)

pub returns-clause-differing : goal.returns-clause-differing
returns-clause-differing c =
    let columns = c.args.columns.now in
    c.counts_between.ensures.differing ∙ ap (λ (l : List Column). differing (counted c.args.shown l))
    ((λ i. take (c.len.ensures.value i - c.columns_in_lines.result) (drop c.columns_in_lines.result columns)) ∙ hidden-cut columns c.columns_in_lines.result c.columns_in_lines.ensures.few)

pub returns-clause-others : goal.returns-clause-others
returns-clause-others c =
    let columns = c.args.columns.now in
    c.counts_between.ensures.others ∙ ap (uncounted c.args.shown)
    ((λ i. take (c.len.ensures.value i - c.columns_in_lines.result) (drop c.columns_in_lines.result columns)) ∙ hidden-cut columns c.columns_in_lines.result c.columns_in_lines.ensures.few)
