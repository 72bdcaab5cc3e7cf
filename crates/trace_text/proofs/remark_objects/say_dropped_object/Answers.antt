-- The members that are said are those of the definition.
use Rattle.std.proofs.Common.{subst}
use Rattle.trace_text.proofs.RemarkObjects.{dropped_object}
use Rattle.trace_text.proofs.remark_objects.say_dropped_object.Goals as goal

pub returns : goal.returns
returns g c = subst (λ text. g.S.TextSink.says c.args.out.now text c.say.new.out) (dropped_object c.args.line c.args.dir c.args.reason) c.say.ensures
