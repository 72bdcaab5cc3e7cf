use Rattle.std.proofs.Common.{subst}
use Rattle.trace_difference.proofs.ObjectTexts.{row_is}
use Rattle.trace_difference.proofs.row_objects.say_row.Goals as goal

pub returns : goal.returns
returns g c =
    let onward = g.met.S.TextSink.onward in
    subst (λ text. g.S.TextSink.says c.args.out.now text c.say-2.new.out) (row_is c.args.rules.now c.args.left.now c.args.right.now c.args.change_number c.args.left_before c.args.right_before c.args.row)
    (onward _ _ _ _ _ (onward _ _ _ _ _ (onward _ _ _ _ _ (onward _ _ _ _ _ c.say_row_front.ensures c.say_left.ensures) c.say.ensures) c.say_right.ensures) c.say-2.ensures)
