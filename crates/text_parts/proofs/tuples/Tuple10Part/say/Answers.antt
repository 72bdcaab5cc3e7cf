-- The ten texts are said one after another.
use Rattle.text_parts.proofs.tuples.Tuple10Part.say.Goals as goal

pub returns : goal.returns
returns g c = let onward = g.met.S.TextSink.onward in onward _ _ _ _ _ (onward _ _ _ _ _ (onward _ _ _ _ _ (onward _ _ _ _ _ (onward _ _ _ _ _ (onward _ _ _ _ _ (onward _ _ _ _ _ (onward _ _ _ _ _ (onward _ _ _ _ _ c.say.ensures c.say-2.ensures) c.say-3.ensures) c.say-4.ensures) c.say-5.ensures) c.say-6.ensures) c.say-7.ensures) c.say-8.ensures) c.say-9.ensures) c.say-10.ensures
