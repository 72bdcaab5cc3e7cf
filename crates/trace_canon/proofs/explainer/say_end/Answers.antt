-- The receptions that stand, the tester's first, and then the counts.
use Rattle.std.proofs.Common.{ap, subst}
use Rattle.direction.specs.declared.Dir.TheVariants as dir
use Rattle.trace_canon.specs.ExplainScript.{unfinished_line}
use Rattle.trace_canon.proofs.explainer.say_end.Goals as goal

pub returns : goal.returns
returns g c =
    g.met.S.TextSink.onward _ _ _ _ _
    (g.met.S.TextSink.onward _ _ _ _ _
    (subst (λ text. g.S.TextSink.says c.args.out.now text c.say_unfinished.new.out)
    (ap (unfinished_line c.args.notation dir.Tester) c.open.ensures) c.say_unfinished.ensures)
    (subst (λ text. g.S.TextSink.says c.say_unfinished.new.out text c.say_unfinished-2.new.out)
    (ap (unfinished_line c.args.notation dir.Unit) c.open-2.ensures) c.say_unfinished-2.ensures))
    c.say_remark.ensures
