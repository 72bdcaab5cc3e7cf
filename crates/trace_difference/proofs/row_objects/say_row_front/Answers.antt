use Rattle.std.proofs.Common.{subst}
use Rattle.trace_difference.proofs.ObjectTexts.{front-is}
use Rattle.trace_difference.proofs.row_objects.say_row_front.Goals as goal

pub returns : goal.returns
returns g c =
    subst (λ text. g.S.TextSink.says c.args.out.now text c.say-2.new.out)
    (front-is c.args.change_number c.args.left_before c.args.right_before c.args.row c.left_in-left.result c.right_in-right.result c.left_in-left.ensures.value c.right_in-right.ensures.value)
    (g.met.S.TextSink.onward _ _ _ _ _ c.say.ensures c.say-2.ensures)
