-- The items and the origins of times are those of both sessions.
use Rattle.trace_pair.proofs.item_row.say_item_row.Goals as goal

pub returns : goal.returns
returns g c =
    let onward = g.met.S.TextSink.onward in
    let front = rw (c.rules-rules.ensures, c.row_times.ensures, c.row_item-one.ensures, c.row_item-other.ensures, c.first_time.ensures, c.first_time-2.ensures) at c.say.ensures in
    onward _ _ _ _ _ (onward _ _ _ _ _ (onward _ _ _ _ _ front c.say_row_losses.ensures) c.say_row_losses-2.ensures) c.say-2.ensures
