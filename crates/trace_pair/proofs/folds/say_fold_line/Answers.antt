-- What is missing is that of the folded items.
use Rattle.trace_pair.proofs.folds.say_fold_line.Goals as goal

pub returns : goal.returns
returns g c =
    let onward = g.met.S.TextSink.onward in
    let items = onward _ _ _ _ _ (onward _ _ _ _ _ c.say.ensures c.say_both_ranges.ensures) c.say-2.ensures in
    onward _ _ _ _ _ (onward _ _ _ _ _ items (rw (c.count_losses.ensures) at c.say-3.ensures)) (rw (c.count_losses-2.ensures) at c.say-4.ensures)
