use Rattle.std.proofs.Common.{subst}
use Rattle.trace_difference.proofs.ObjectTexts.{counts_are}
use Rattle.trace_difference.proofs.row_objects.say_row_counts.Goals as goal

pub returns : goal.returns
returns g c =
    subst (λ text. g.S.TextSink.says c.args.out.now text c.say.new.out)
    (counts_are c.args.rules.now c.args.shortest c.args.rows.now c.args.left_out c.args.right_out c.count_of-same.result c.count_of-removed.result c.count_of-added.result c.count_of-changed.result c.count_of-same.ensures c.count_of-removed.ensures
    c.count_of-added.ensures c.count_of-changed.ensures)
    c.say.ensures
