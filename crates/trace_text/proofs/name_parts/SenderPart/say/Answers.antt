-- The name that is said is the text of the direction.
use Rattle.std.proofs.Common.{subst}
use Rattle.trace_text.proofs.name_parts.SenderPart.say.Goals as goal

pub returns : goal.returns
returns g c = subst (λ text. g.S.TextSink.says c.args.out.now text c.say.new.out) c.direction_name.ensures c.say.ensures
