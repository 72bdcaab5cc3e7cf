-- Behind the last frame come the rows of the end, and what closes the page.
use Rattle.std.proofs.Common.{◌≡◌, ◌<◌, ◌^◌, ◌-◌, List, arith, ap, sym, subst, ◌∙◌, ◌++◌, length}
use Rattle.isotp_receive.specs.declared.TheConstants.{MESSAGE_LIMIT}
use Rattle.uds_rules.specs.Rule.{RuleValue}
use Rattle.trace_report.specs.Blocks.{blocks_of}
use Rattle.trace_report.specs.Chart.{rows_text}
use Rattle.trace_report.specs.Events.{end_rows, rows_of}
use Rattle.trace_report.specs.Front.{PageTitleValue}
use Rattle.trace_report.specs.OtherAnswers.{last_asked}
use Rattle.trace_report.specs.Page.{front_before, page_end}
use Rattle.trace_report.specs.Rows.{RowValue}
use Rattle.trace_report.specs.proving.Following.{IsChartOf}
use Rattle.trace_report.specs.proving.Pages.{title_of}
use Rattle.trace_report.proofs.HowKept.{first_known, last_known}
use Rattle.trace_report.proofs.Steps.{few_rows}
use Rattle.trace_report.proofs.reporter.ReporterMachine.end.Goals as goal

pub returns-clause-says : goal.returns-clause-says
returns-clause-says g c = λ rules start T known stand.
    let ruled : c.args.self.title.rules.now ≡ (title_of start.title).rules = ap (λ (title : PageTitleValue). title.rules) known.same in
    let spoken = c.as_slice.ensures.value ∙ known.spoken in
    let rows = c.end.ensures rules T known.follows stand in
    let low : length (rows_of MESSAGE_LIMIT rules T) < 2 ^ 64 - 3 = omega (arith, known.few, few_rows MESSAGE_LIMIT rules T) in
    let stood = subst (λ (r : List RuleValue). IsChartOf r (rows_of MESSAGE_LIMIT rules T) c.args.self.chart) (sym ruled) known.chart in
    let chart : IsChartOf (title_of start.title).rules (rows_of MESSAGE_LIMIT rules T ++ end_rows MESSAGE_LIMIT rules T) c.say_rows.new.self =
    subst (λ (r : List RuleValue). IsChartOf r (rows_of MESSAGE_LIMIT rules T ++ end_rows MESSAGE_LIMIT rules T) c.say_rows.new.self) ruled
    (subst (λ (l : List RowValue). IsChartOf c.args.self.title.rules.now l c.say_rows.new.self) (ap (λ l. rows_of MESSAGE_LIMIT rules T ++ l) rows)
    (c.say_rows.ensures.stands (rows_of MESSAGE_LIMIT rules T) low stood)) in
    let slow = c.slowest.ensures ∙ chart.times.slowest in
    let first = first_known T c.args.self.times known.times in
    let origin = c.first_of.ensures ∙ first in
    let last = last_known T c.args.self.times known.times in
    let front = subst (λ (title : PageTitleValue). g.S.TextSink.says c.args.out.now (front_before title T) c.say_front_before.new.out) known.same
    (c.say_front_before.ensures T known.times) in
    g.met.S.TextSink.onward _ _ _ _ _ (g.met.S.TextSink.onward _ _ _ _ _ front
    (subst (λ text. g.S.TextSink.says c.say_front_before.new.out text c.say_rows.new.out)
    (λ i. rows_text (ruled i) (origin i) (blocks_of (rows_of MESSAGE_LIMIT rules T)) (last_asked (rows_of MESSAGE_LIMIT rules T)) (rows i)) (c.say_rows.ensures.says (rows_of MESSAGE_LIMIT rules T) low stood)))
    (subst (λ text. g.S.TextSink.says c.say_rows.new.out text c.say.new.out)
    (λ i. page_end (chart.blocks i) (record {
      rules = ruled i;
      spoken = spoken i;
      tally = chart.tally i;
      summary = c.args.summary.now;
      first = first i;
      last = last i;
      slowest = slow i;
      others = chart.echoes.others i;
    })) c.say.ensures)
