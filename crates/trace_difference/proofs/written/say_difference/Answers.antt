use Rattle.std.proofs.Common.{subst}
use Rattle.trace_difference.specs.Objects.{objects_text}
use Rattle.trace_difference.proofs.written.say_difference.Goals as goal

pub returns-in-Json : goal.returns-in-Json
returns-in-Json g c =
    rw c.in-Json.is
    (subst (λ rows. g.S.TextSink.says c.args.out.now (objects_text c.args.rules.now c.args.difference.now.shortest rows c.args.left.session.now c.args.right.session.now) c.say_objects.new.out)
    c.deref-in-Json.ensures.value c.say_objects.ensures)
