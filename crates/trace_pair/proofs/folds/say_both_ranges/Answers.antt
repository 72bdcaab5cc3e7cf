-- One range is said behind the other.
use Rattle.trace_pair.proofs.folds.say_both_ranges.Goals as goal

pub returns : goal.returns
returns g c =
    let onward = g.met.S.TextSink.onward in
    onward _ _ _ _ _ (onward _ _ _ _ _ c.say_items_range.ensures c.say.ensures) c.say_items_range-2.ensures
