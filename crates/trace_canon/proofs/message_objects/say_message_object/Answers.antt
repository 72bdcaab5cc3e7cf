-- The parts that are said are the object of the definition.
use Rattle.std.proofs.Common.{subst}
use Rattle.std.specs.Prelude.{option_map}
use Rattle.uds_exchange.specs.Judging.{sent}
use Rattle.trace_canon.specs.MessagesScript.{reply_value}
use Rattle.trace_canon.proofs.SaidMessages.{object_parts}
use Rattle.trace_canon.proofs.message_objects.say_message_object.Goals as goal

pub returns : goal.returns
returns g c =
    subst (λ text. g.S.TextSink.says c.args.out.now text c.say.new.out)
    (object_parts c.args.rules.now c.args.message.now.item_number c.args.message.now.step (sent c.args.message.now)
    c.args.extent.first c.args.extent.last c.args.extent.is_functional
    (option_map reply_value c.args.reply)) c.say.ensures
