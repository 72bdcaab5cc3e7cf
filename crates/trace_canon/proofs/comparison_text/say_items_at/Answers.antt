-- The item of each log is said behind its own word.
use Rattle.trace_canon.proofs.comparison_text.say_items_at.Goals as goal

pub returns : goal.returns
returns g c =
    let onward = g.met.S.TextSink.onward in
    onward _ _ _ _ _ (onward _ _ _ _ _ (onward _ _ _ _ _ c.say.ensures c.say_item_at.ensures) c.say-2.ensures) c.say_item_at-2.ensures
