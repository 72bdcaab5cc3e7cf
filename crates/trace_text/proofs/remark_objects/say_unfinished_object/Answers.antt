-- The members that are said are those of the definition.
use Rattle.std.proofs.Common.{subst}
use Rattle.trace_text.proofs.RemarkObjects.{unfinished_object}
use Rattle.trace_text.proofs.remark_objects.say_unfinished_object.Goals as goal

pub returns : goal.returns
returns g c = subst (λ text. g.S.TextSink.says c.args.out.now text c.say.new.out) (unfinished_object c.args.dir c.args.line c.args.len) c.say.ensures
