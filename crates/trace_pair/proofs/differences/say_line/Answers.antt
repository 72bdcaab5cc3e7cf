-- A line is said in parts.
use Rattle.trace_pair.proofs.differences.say_line.Goals as goal

pub returns : goal.returns
returns g c =
    let onward = g.met.S.TextSink.onward in
    onward _ _ _ _ _ (onward _ _ _ _ _ c.say.ensures c.say_change_line.ensures) c.say-2.ensures
