-- A fold is said with its counts, and then its lines.
use Rattle.pair_words.proofs.column_lines.say_fold.Goals as goal

pub returns : goal.returns
returns g c =
    let onward = g.met.S.TextSink.onward in
    let counts = rw (c.counts_from-counts.ensures.all, c.counts_from-counts.ensures.differing, c.counts_from-counts.ensures.others) at c.say.ensures in
    onward _ _ _ _ _ (onward _ _ _ _ _ counts c.say_lines.ensures) c.say-2.ensures
