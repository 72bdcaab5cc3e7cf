-- Three rows at the most are said one after another, each behind those before it.
use Rattle.std.proofs.Common.{◌≡◌, ◌≤◌, Option, Some, None, List, arith, ap, subst, sym, ◌++◌, ◌∙◌, append_assoc, length}
use Rattle.std.proofs.lemmas.List.{length-append}
use Rattle.trace_report.specs.Rows.{RowValue}
use Rattle.trace_report.specs.declared.row.SessionRow.{SessionRow}
use Rattle.trace_report.specs.proving.Following.{IsChartOf, row_if, rows_in}
use Rattle.trace_report.proofs.RowTexts.{three_onward}
use Rattle.trace_report.proofs.chart.Chart.say_rows.Goals as goal

one_at_most : (row : Option SessionRow) → length (row_if row) ≤ 1
one_at_most None = omega arith
one_at_most (Some row) = omega arith

pub returns-clause-stands : goal.returns-clause-stands
returns-clause-stands g c = λ before few is.
    let a = row_if c.args.rows.first in
    let b = row_if c.args.rows.second in
    let d = row_if c.args.rows.third in
    let first = c.say_row_if.ensures.stands before (omega arith) is in
    let one = length-append before a in
    let second = c.say_row_if-2.ensures.stands (before ++ a) (omega (arith, one, one_at_most c.args.rows.first)) first in
    let two = length-append (before ++ a) b in
    let third = c.say_row_if-3.ensures.stands ((before ++ a) ++ b) (omega (arith, one, two, one_at_most c.args.rows.first, one_at_most c.args.rows.second)) second in
    let joined : ((before ++ a) ++ b) ++ d ≡ before ++ rows_in c.args.rows =
    append_assoc (before ++ a) b d ∙ append_assoc before a (b ++ d) ∙ ap (λ l. before ++ l) (sym (append_assoc a b d)) in
    subst (λ (rows : List RowValue). IsChartOf c.args.rules.now rows c.say_row_if-3.new.self) joined third

pub returns-clause-says : goal.returns-clause-says
returns-clause-says g c = λ before few is.
    let a = row_if c.args.rows.first in
    let b = row_if c.args.rows.second in
    let d = row_if c.args.rows.third in
    let first = c.say_row_if.ensures.stands before (omega arith) is in
    let one = length-append before a in
    let second = c.say_row_if-2.ensures.stands (before ++ a) (omega (arith, one, one_at_most c.args.rows.first)) first in
    let two = length-append (before ++ a) b in
    subst (λ text. g.S.TextSink.says c.args.out.now text c.say_row_if-3.new.out) (three_onward c.args.rules.now c.args.origin before a b d)
    (g.met.S.TextSink.onward _ _ _ _ _ (g.met.S.TextSink.onward _ _ _ _ _ (c.say_row_if.ensures.says before (omega arith) is)
    (c.say_row_if-2.ensures.says (before ++ a) (omega (arith, one, one_at_most c.args.rows.first)) first))
    (c.say_row_if-3.ensures.says ((before ++ a) ++ b) (omega (arith, one, two, one_at_most c.args.rows.first, one_at_most c.args.rows.second)) second))
