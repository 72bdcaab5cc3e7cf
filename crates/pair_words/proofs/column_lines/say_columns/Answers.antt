-- The lines are said, and what is hidden behind them.
use Rattle.pair_words.proofs.column_lines.say_columns.Goals as goal

pub returns : goal.returns
returns g c =
    let onward = g.met.S.TextSink.onward in
    let rest = rw (c.hidden_counts.ensures.all, c.hidden_counts.ensures.differing, c.hidden_counts.ensures.others) at c.say-2.ensures in
    onward _ _ _ _ _ (onward _ _ _ _ _ (onward _ _ _ _ _ c.say.ensures c.say_stretches.ensures) rest) c.say-3.ensures
