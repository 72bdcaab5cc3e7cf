-- The lines have the columns.
use Rattle.std.proofs.Common.{◌≡◌, ℕ, zero, suc, ◌+◌, ◌*◌, ◌≤◌, List, ◌++◌, length, drop, arith, ap, sym, ◌∙◌}
use Rattle.std.specs.List.{flat_map, range_with_len}
use Rattle.std.proofs.lemmas.List.{drop-drop, drop_all, take-append-drop}
use Rattle.byte_columns.specs.declared.column.Column.{Column}
use Rattle.byte_columns.specs.Laws.{LinesHaveTheColumns}
use Rattle.byte_columns.specs.Lines.{hidden, in_lines, line, line_count}

-- so many lines from one on, where no column is left behind them
lines-from : (columns : List Column) (number count : ℕ) → length (in_lines columns) ≤ 16 * (number + count)
    → flat_map (line columns) (range_with_len number count) ≡ drop (16 * number) (in_lines columns)
lines-from columns number zero all = sym (drop_all (16 * number) (in_lines columns) (omega arith))
lines-from columns number (suc count) all =
    let next : 16 * (number + 1) ≡ 16 * number + 16 = omega arith in
    ap (λ (l : List Column). line columns number ++ l) (lines-from columns (number + 1) count (omega arith))
    ∙ ap (λ (k : ℕ). line columns number ++ drop k (in_lines columns)) next
    ∙ ap (λ (l : List Column). line columns number ++ l) (sym (drop-drop 16 (16 * number) (in_lines columns)))
    ∙ take-append-drop 16 (drop (16 * number) (in_lines columns))

pub lines_have_the_columns : LinesHaveTheColumns
lines_have_the_columns columns =
    ap (λ (l : List Column). l ++ hidden columns) (lines-from columns 0 (line_count columns) (omega arith)) ∙ take-append-drop 4095 columns
