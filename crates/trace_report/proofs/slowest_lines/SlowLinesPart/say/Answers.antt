-- Each answer has its line behind those before it.
use Rattle.std.proofs.Common.{get_or, refl, sym, subst}
use Rattle.trace_text.proofs.Promises.{one_more_text}
use Rattle.trace_report.specs.SlowestLines.{slow_line}
use Rattle.trace_report.proofs.slowest_lines.SlowLinesPart.say.Goals as goal

pub answers-preserved : goal.answers-preserved
answers-preserved g c =
    let answers = c.args.self.0.now in
    let k = c.answers.answer-index in
    subst (λ text. g.S.TextSink.says c.args.out.now text c.say.new.out) (sym (one_more_text slow_line answers k _ (get_or answers k _) c.answers-test.true refl))
    (g.met.S.TextSink.onward _ _ _ _ _ c.answers.invariant c.say.ensures)
