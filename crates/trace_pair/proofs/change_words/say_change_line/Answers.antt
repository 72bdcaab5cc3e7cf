-- A line is said in parts.
use Rattle.trace_pair.proofs.change_words.say_change_line.Goals as goal

pub returns : goal.returns
returns g c =
    let onward = g.met.S.TextSink.onward in
    let unclean = rw (c.is_lossy.ensures, c.is_lossy-2.ensures) at c.say-5.ensures in
    onward _ _ _ _ _ (onward _ _ _ _ _ (onward _ _ _ _ _ (onward _ _ _ _ _ (onward _ _ _ _ _ (onward _ _ _ _ _ (onward _ _ _ _ _ c.say.ensures c.say_where.ensures) c.say-2.ensures) c.say-3.ensures) c.say-4.ensures) c.say_what.ensures) unclean) c.say-6.ensures
