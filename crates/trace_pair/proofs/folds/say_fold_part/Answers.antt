-- A part is said with its ranges, and then its rows.
use Rattle.trace_pair.proofs.folds.say_fold_part.Goals as goal

pub returns : goal.returns
returns g c =
    let onward = g.met.S.TextSink.onward in
    onward _ _ _ _ _ (onward _ _ _ _ _ (onward _ _ _ _ _ (onward _ _ _ _ _ (onward _ _ _ _ _ c.say.ensures c.say_both_ranges.ensures) c.say-2.ensures) c.say-3.ensures) c.say_same_rows.ensures) c.say-4.ensures
