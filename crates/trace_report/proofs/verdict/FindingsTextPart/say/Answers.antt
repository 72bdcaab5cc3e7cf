-- The times that are said are those of the first frame and of the last one.
use Rattle.std.proofs.Common.{subst}
use Rattle.trace_report.specs.Verdict.{findings_text}
use Rattle.trace_report.proofs.verdict.FindingsTextPart.say.Goals as goal

pub returns : goal.returns
returns g c =
    subst (λ text. g.S.TextSink.says c.args.out.now text c.say.new.out)
    (λ i. findings_text (record {
      rules = c.args.self.0.rules.now;
      spoken = c.args.self.0.spoken.now;
      tally = c.args.self.0.tally.now;
      summary = c.args.self.0.summary.now;
      first = c.first_of.ensures i;
      last = c.last_of.ensures i;
      slowest = c.args.self.0.slowest.now;
      others = c.args.self.0.others.now;
    }))
    c.say.ensures
