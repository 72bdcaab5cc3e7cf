-- A log has bytes in a line where it has more behind it than before.
use Rattle.std.proofs.Common.{◌≡◌, ◌-◌, ◌<◌, ℕ, List, ◌++◌, codes, length, take, drop, arith, ap, subst, ◌∙◌}
use Rattle.byte_columns.specs.declared.column.Column.{Column}
use Rattle.byte_columns.specs.Lines.{line, line_count}
use Rattle.pair_words.specs.ColumnLines.{bytes_before, bytes_in, cells, grey_columns, number_text, whose_text}
use Rattle.pair_words.specs.Logs.{other_log}
use Rattle.pair_words.proofs.LineCells.{bytes-behind, line-piece, no-byte, some-bytes}
use Rattle.pair_words.proofs.column_cells.say_line_of.Goals as goal

pub returns-then-bytes_before-before : goal.returns-then-bytes_before-before
returns-then-bytes_before-before g c =
    let log = c.args.log in
    let columns = c.args.line.columns.now in
    let number = c.args.line.number in
    let behind = bytes-behind columns number c.line_range-range.result.start c.line_range-range.result.end c.requires c.line_range-range.ensures.first c.line_range-range.ensures.length log in
    let none : length (bytes_in log (line columns number)) ≡ 0 =
    omega (arith, behind, c.bytes_before.ensures, c.bytes_before-before.ensures, c.if-bytes_before-before.true) in
    subst (λ (text : List ℕ). g.S.TextSink.says c.args.out.now text c.say.new.out)
    (no-byte c.args.with_letters c.args.whose log
    (number_text (line_count columns) c.args.whose (bytes_before log columns number) (bytes_before (other_log log) columns number)) (line columns number) (bytes_in log (line columns number)) none)
    c.say.ensures

pub returns-else-bytes_before-before : goal.returns-else-bytes_before-before
returns-else-bytes_before-before g c =
    let says = g.S.TextSink.says in
    let onward = g.met.S.TextSink.onward in
    let log = c.args.log in
    let lettered = c.args.with_letters in
    let whose = c.args.whose in
    let columns = c.args.line.columns.now in
    let number = c.args.line.number in
    let from = c.line_range-range.result.start in
    let to = c.line_range-range.result.end in
    let here = bytes_in log (line columns number) in
    let behind = bytes-behind columns number c.line_range-range.result.start c.line_range-range.result.end c.requires c.line_range-range.ensures.first c.line_range-range.ensures.length log in
    let some : 0 < length (bytes_in log (line columns number)) =
    omega (arith, behind, c.bytes_before.ensures, c.bytes_before-before.ensures, c.if-bytes_before-before.false) in
    let piece = line-piece columns number from to c.requires c.line_range-range.ensures.first c.line_range-range.ensures.length in
    let before : c.bytes_before-before.result ≡ bytes_before log columns number =
    c.bytes_before-before.ensures ∙ ap (λ (n : ℕ). length (bytes_in log (take n columns))) c.line_range-range.ensures.first in
    let there : c.bytes_before-there.result ≡ bytes_before (other_log log) columns number =
    c.bytes_before-there.ensures ∙ (λ i. length (bytes_in (c.other_log.ensures i) (take (c.line_range-range.ensures.first i) columns))) in
    let text = λ (own : List Column) (lines n m : ℕ).
    (codes "<p><i>" ++ number_text lines whose n m ++ codes "</i> " ++ whose_text whose ++ codes "<code>") ++ cells log own ++ codes "</code>"
    ++ grey_columns lettered log own ++ codes "</p>" in
    let said : says c.args.out.now (text (take (to - from) (drop from columns)) c.line_count.result c.bytes_before-before.result c.bytes_before-there.result) c.say-else-bytes_before-before-3.new.out =
    onward _ _ _ _ _ (onward _ _ _ _ _ (onward _ _ _ _ _ (onward _ _ _ _ _ c.say-else-bytes_before-before.ensures c.say_cells.ensures) c.say-else-bytes_before-before-2.ensures) c.say_letters_if.ensures) c.say-else-bytes_before-before-3.ensures in
    subst (λ (t : List ℕ). says c.args.out.now t c.say-else-bytes_before-before-3.new.out)
    ((λ i. text (piece i) (c.line_count.ensures.value i) (before i) (there i))
    ∙ some-bytes lettered whose log (number_text (line_count columns) whose (bytes_before log columns number) (bytes_before (other_log log) columns number)) (line columns number) here some)
    said
