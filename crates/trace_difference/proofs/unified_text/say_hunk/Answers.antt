use Rattle.std.proofs.Common.{subst}
use Rattle.trace_difference.proofs.HunksLeft.{hunk-is}
use Rattle.trace_difference.proofs.unified_text.say_hunk.Goals as goal

pub returns : goal.returns
returns g c =
    subst (λ text. g.S.TextSink.says c.args.out.now text c.say_lines.new.out)
    (hunk-is c.args.rules.now c.args.left.now c.args.right.now c.args.left_before c.args.right_before c.args.rows.now c.left_count.result c.right_count.result c.left_count.ensures
    c.right_count.ensures)
    (g.met.S.TextSink.onward _ _ _ _ _ c.say.ensures c.say_lines.ensures)
