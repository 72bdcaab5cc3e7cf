-- The row that is said is that of the table of causes.
use Rattle.std.proofs.Common.{subst}
use Rattle.trace_report.specs.Causes.{CauseRowValue, cause_row_text}
use Rattle.trace_report.proofs.cause.RefusalCauseTextPart.say.Goals as goal

pub returns : goal.returns
returns g c =
    subst (λ (row : CauseRowValue). g.S.TextSink.says c.args.out.now (cause_row_text row (g.N.Part.text c.args.self.1)) c.say.new.out) c.row_of_cause.ensures c.say.ensures
