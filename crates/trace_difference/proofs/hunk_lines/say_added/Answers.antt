use Rattle.std.proofs.Common.{arith, subst}
use Rattle.trace_difference.proofs.LineSteps.{added-text}
use Rattle.trace_difference.proofs.hunk_lines.say_added.Goals as goal

pub added-preserved : goal.added-preserved
added-preserved g c = record {
  forward = omega (arith, c.added.invariant.forward);
  said = subst (λ text. g.S.TextSink.says c.args.out.now text c.say_line.new.out)
      (added-text c.args.rules.now c.args.items.now c.args.from c.added.place c.added.invariant.forward)
      (g.met.S.TextSink.onward _ _ _ _ _ c.added.invariant.said c.say_line.ensures);
}
