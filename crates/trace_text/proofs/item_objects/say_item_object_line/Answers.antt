-- The open object, its end and the end of the line are the line of the definition.
use Rattle.std.proofs.Common.{subst}
use Rattle.uds_exchange.specs.ItemSeen.{item_value}
use Rattle.trace_text.proofs.ItemObjects.{object_line_is}
use Rattle.trace_text.proofs.item_objects.say_item_object_line.Goals as goal

pub returns : goal.returns
returns g c =
    subst (λ text. g.S.TextSink.says c.args.out.now text c.say_closed.new.out)
    (object_line_is c.args.rules.now c.args.numbering c.args.number (item_value c.args.item))
    c.say_closed.ensures
