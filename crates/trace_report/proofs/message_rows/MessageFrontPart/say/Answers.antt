-- Links lead to the first row of an item, by the tests that the definitions name.
use Rattle.trace_report.proofs.message_rows.MessageFrontPart.say.Goals as goal

pub returns : goal.returns
returns g c = rw (c.target_if.ensures, c.is_item_place-is_place.ensures, c.begins_item-begins.ensures) at c.say.ensures
