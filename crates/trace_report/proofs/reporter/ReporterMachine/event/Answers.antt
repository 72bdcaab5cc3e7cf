-- A frame adds the front, where it is the first, and its rows.
use Rattle.std.proofs.Common.{◌≡◌, ◌<◌, ◌^◌, ◌-◌, List, Some, arith, ap, sym, subst, ◌∙◌, [], ◌∷◌, ◌++◌, length}
use Rattle.std.proofs.lemmas.List.{length-append}
use Rattle.isotp_receive.specs.Channels.{dir_of}
use Rattle.isotp_receive.specs.declared.TheConstants.{MESSAGE_LIMIT}
use Rattle.isotp_receive.specs.Verdict.{messages}
use Rattle.uds_rules.specs.Rule.{RuleValue}
use Rattle.trace_report.specs.Blocks.{blocks_of}
use Rattle.trace_report.specs.Chart.{rows_text}
use Rattle.trace_report.specs.Events.{rows_of}
use Rattle.trace_report.specs.Front.{PageTitleValue}
use Rattle.trace_report.specs.OtherAnswers.{last_asked}
use Rattle.trace_report.specs.Page.{front_before}
use Rattle.trace_report.specs.Rows.{RowValue}
use Rattle.trace_run.specs.Spoken.{spoken_counts}
use Rattle.trace_report.specs.proving.Following.{IsChartOf}
use Rattle.trace_report.specs.proving.Pages.{title_of}
use Rattle.trace_report.proofs.HowKept.{first_known}
use Rattle.trace_run.proofs.Promises.{few_messages, spoken_next}
use Rattle.trace_report.proofs.Steps.{few_rows, rows_next}
use Rattle.trace_report.proofs.reporter.ReporterMachine.event.Goals as goal

pub returns-clause-ok : goal.returns-clause-ok
returns-clause-ok g c = λ rules start T e seen known.
    let M = messages MESSAGE_LIMIT T in
    let page = c.args.self.now.title.rules.now in
    let ruled : c.args.self.now.title.rules.now ≡ (title_of start.title).rules = ap (λ (title : PageTitleValue). title.rules) known.same in
    let counted = c.count_message.ensures M (dir_of c.args.seen.channel) (few_messages T seen.event.few)
    (known.spoken ∙ ap (λ (l : List RuleValue). spoken_counts l M) (sym ruled)) in
    let times = c.times_with-times.ensures T e known.times seen.event.micros in
    let origin = first_known (T ++ e ∷ []) (Some c.times_with-times.result) times in
    let rows = c.take-rows.ensures.rows rules T e seen known.follows in
    let low : length (rows_of MESSAGE_LIMIT rules T) < 2 ^ 64 - 3 = omega (arith, seen.event.few, few_rows MESSAGE_LIMIT rules T) in
    let stood = subst (λ (r : List RuleValue). IsChartOf r (rows_of MESSAGE_LIMIT rules T) c.args.self.now.chart) (sym ruled) known.chart in
    let chart = c.say_rows.ensures.stands (rows_of MESSAGE_LIMIT rules T) low stood in
    let front = subst (λ (title : PageTitleValue). g.S.TextSink.says c.args.out.now (front_before title T) c.say_front_before.new.out) known.same
    (c.say_front_before.ensures T known.times) in (
      record {
        few = omega (arith, seen.event.few, length-append T (e ∷ []));
        same = known.same;
        times = times;
        follows = c.take-rows.ensures.next rules T e seen known.follows;
        chart =
            subst (λ (r : List RuleValue). IsChartOf r (rows_of MESSAGE_LIMIT rules (T ++ e ∷ [])) c.say_rows.new.self) ruled
            (subst (λ (l : List RowValue). IsChartOf page l c.say_rows.new.self) (ap (λ l. rows_of MESSAGE_LIMIT rules T ++ l) rows ∙ sym (rows_next MESSAGE_LIMIT rules T e)) chart);
        spoken = spoken_next page rules T e c.args.seen _ seen counted
            ∙ ap (λ (l : List RuleValue). spoken_counts l (messages MESSAGE_LIMIT (T ++ e ∷ []))) ruled;
      },
      g.met.S.TextSink.onward _ _ _ _ _ front
          (subst (λ text. g.S.TextSink.says c.say_front_before.new.out text c.say_rows.new.out)
          (λ i. rows_text (ruled i) (origin i) (blocks_of (rows_of MESSAGE_LIMIT rules T)) (last_asked (rows_of MESSAGE_LIMIT rules T)) (rows i)) (c.say_rows.ensures.says (rows_of MESSAGE_LIMIT rules T) low stood)),
    )
