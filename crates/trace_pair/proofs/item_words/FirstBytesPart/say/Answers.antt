-- The first bytes are those that the definition takes.
use Rattle.trace_pair.proofs.item_words.FirstBytesPart.say.Goals as goal

pub returns : goal.returns
returns g c = rw (c.saturating_sub-more.ensures, c.known_length.ensures) at c.say.ensures
