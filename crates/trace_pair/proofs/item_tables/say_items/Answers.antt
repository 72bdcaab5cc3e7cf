-- The box stands where the definition tests for it, and behind it what is missing of a log without an item.
use Rattle.trace_pair.proofs.item_tables.say_items.Goals as goal

pub returns : goal.returns
returns g c =
    let onward = g.met.S.TextSink.onward in
    onward _ _ _ _ _ (onward _ _ _ _ _ (rw (c.is_filtered.ensures) at c.say.ensures) c.say_rows_or_none.ensures) c.say-2.ensures
