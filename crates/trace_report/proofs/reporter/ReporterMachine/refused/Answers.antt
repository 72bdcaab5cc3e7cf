-- Where the log is refused, the page ends with the rows so far and the cause.
use Rattle.std.proofs.Common.{◌≡◌, subst, ap, ◌∙◌}
use Rattle.trace_report.specs.Causes.{cause_of}
use Rattle.trace_report.specs.Front.{PageTitleValue}
use Rattle.trace_report.specs.Page.{front_before, refused_end}
use Rattle.trace_report.specs.proving.Pages.{title_of}
use Rattle.trace_run.specs.Script.{glimpse_value}
use Rattle.trace_report.proofs.HowKept.{first_known, last_known}
use Rattle.trace_report.proofs.reporter.ReporterMachine.refused.Goals as goal

pub returns : goal.returns
returns g c = record {
  says = λ rules start T known.
      let ruled : c.args.self.title.rules.now ≡ (title_of start.title).rules = ap (λ (title : PageTitleValue). title.rules) known.same in
      let spoken = c.as_slice.ensures.value ∙ known.spoken in
      let slow = c.slowest.ensures ∙ known.chart.times.slowest in
      let first = first_known T c.args.self.times known.times in
      let last = last_known T c.args.self.times known.times in
      let front = subst (λ (title : PageTitleValue). g.S.TextSink.says c.args.out.now (front_before title T) c.say_front_before.new.out) known.same
      (c.say_front_before.ensures T known.times) in
      g.met.S.TextSink.onward _ _ _ _ _ front
      (subst (λ text. g.S.TextSink.says c.say_front_before.new.out text c.say.new.out)
      (λ i. refused_end c.args.why ((c.cause_of.ensures ∙ ap (λ (title : PageTitleValue). cause_of c.args.why title.max_bytes (glimpse_value c.args.glimpse)) known.same) i) (known.chart.blocks i) (record {
        rules = ruled i;
        spoken = spoken i;
        tally = known.chart.tally i;
        summary = c.args.summary.now;
        first = first i;
        last = last i;
        slowest = slow i;
        others = known.chart.echoes.others i;
      })) c.say.ensures);
}
