-- The counts that are said are the members behind the first one.
use Rattle.std.proofs.Common.{subst}
use Rattle.trace_text.proofs.RemarkObjects.{counts_object}
use Rattle.trace_text.proofs.remark_objects.say_summary_object.Goals as goal

pub returns : goal.returns
returns g c =
    subst (λ text. g.S.TextSink.says c.args.out.now text c.say-2.new.out) (counts_object c.args.summary.now c.named.result c.named.ensures)
    (g.met.S.TextSink.onward _ _ _ _ _ c.say.ensures (g.met.S.TextSink.onward _ _ _ _ _ c.say_counts.ensures c.say-2.ensures))
