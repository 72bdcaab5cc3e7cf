-- How many bytes a log has is counted by its side.
use Rattle.std.proofs.Common.{◌∙◌, ap, length, sym, take}
use Rattle.pair_words.specs.ColumnLines.{bytes_in}
use Rattle.pair_words.specs.declared.log.PairLog.{PairLog}
use Rattle.pair_words.proofs.Cells.{left-listed, right-listed}
use Rattle.pair_words.proofs.column_cells.bytes_before.Goals as goal

pub returns-in-A : goal.returns-in-A
returns-in-A c =
    let before = take c.args.at c.args.columns.now in
    c.left_before.ensures ∙ left-listed before ∙ ap (λ (log : PairLog). length (bytes_in log before)) (sym c.in-A.is)

pub returns-in-B : goal.returns-in-B
returns-in-B c =
    let before = take c.args.at c.args.columns.now in
    c.right_before.ensures ∙ right-listed before ∙ ap (λ (log : PairLog). length (bytes_in log before)) (sym c.in-B.is)
