-- A side is said with its name, and then its chart.
use Rattle.trace_pair.proofs.first.say_side.Goals as goal

pub returns : goal.returns
returns g c =
    let onward = g.met.S.TextSink.onward in
    onward _ _ _ _ _ (onward _ _ _ _ _ c.say.ensures c.say_chart.ensures) c.say-2.ensures
