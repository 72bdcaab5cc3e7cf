-- A row that is said is one more of the chart, with what its blocks begin.
use Rattle.std.proofs.Common.{Option, arith, ap, subst, sym, [], ◌∷◌, ◌++◌, ◌∙◌}
use Rattle.trace_report.specs.declared.blocks.Blocks.{Blocks}
use Rattle.trace_report.specs.declared.row.SessionRow.{SessionRow}
use Rattle.trace_report.specs.Blocks.{blocks_behind, no_blocks}
use Rattle.trace_report.specs.Chart.{rows_text}
use Rattle.trace_report.specs.OtherAnswers.{is_other}
use Rattle.trace_report.specs.Rows.{row_of}
use Rattle.trace_report.specs.proving.Following.{IsChartOf, row_if}
use Rattle.trace_report.proofs.RowTexts.{blocks_onward, few_blocks}
use Rattle.trace_report.proofs.chart.Chart.say_row_if.Goals as goal

pub returns-in-Some-clause-stands : goal.returns-in-Some-clause-stands
returns-in-Some-clause-stands g c = λ before few is.
    let row = row_of c.in-Some.row in
    let low = few_blocks before in
    let counts = ap (λ (b : Blocks). b.count) is.blocks in
    let rows = ap (λ (b : Blocks). b.rows) is.blocks in
    subst (λ (o : Option SessionRow). IsChartOf c.args.rules.now (before ++ row_if o) (record { blocks = c.say_next_row.new.blocks; tally = c.take.new.self; times = c.note.new.self; echoes = c.follow.new.self })) (sym c.in-Some.is)
    (record {
      blocks = c.say_next_row.ensures.stands (omega (arith, counts, low.0)) (omega (arith, rows, low.1)) ∙ ap (λ b. blocks_behind b (row ∷ [])) is.blocks
          ∙ sym (blocks_onward no_blocks before (row ∷ []));
      tally = c.take.ensures before (omega arith) is.tally;
      times = c.note.ensures before is.times;
      echoes = c.follow.ensures c.args.rules.now before (omega arith) is.echoes (c.is_other-other.ensures ∙ ap (λ asked. is_other c.args.rules.now asked row) is.echoes.asked);
    })

pub returns-in-Some-clause-says : goal.returns-in-Some-clause-says
returns-in-Some-clause-says g c = λ before few is.
    let row = row_of c.in-Some.row in
    let low = few_blocks before in
    let counts = ap (λ (b : Blocks). b.count) is.blocks in
    let rows = ap (λ (b : Blocks). b.rows) is.blocks in
    subst (λ text. g.S.TextSink.says c.args.out.now text c.say_next_row.new.out)
    (λ i. rows_text c.args.rules.now c.args.origin (is.blocks i) ((c.asked-asked.ensures ∙ is.echoes.asked) i) (row_if (sym c.in-Some.is i)))
    (c.say_next_row.ensures.says (omega (arith, counts, low.0)) (omega (arith, rows, low.1)))
