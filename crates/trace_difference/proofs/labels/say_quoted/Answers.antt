use Rattle.trace_difference.proofs.labels.say_quoted.Goals as goal

pub returns : goal.returns
returns g c =
    let onward = g.met.S.TextSink.onward in
    onward _ _ _ _ _ (onward _ _ _ _ _ c.say.ensures c.say_escaped.ensures) c.say-2.ensures
