-- A change is said in parts, each by what the definition names.
use Rattle.trace_pair.proofs.first.say_change.Goals as goal

pub returns : goal.returns
returns g c =
    let onward = g.met.S.TextSink.onward in
    let left = rw (c.own_count.ensures.value) at c.say_side.ensures in
    let right = rw (c.own_count-2.ensures.value) at c.say_side-2.ensures in
    onward _ _ _ _ _ (onward _ _ _ _ _ (onward _ _ _ _ _ (onward _ _ _ _ _ (onward _ _ _ _ _ c.say.ensures c.say_change_line.ensures) c.say-2.ensures) left) right) c.say-3.ensures
