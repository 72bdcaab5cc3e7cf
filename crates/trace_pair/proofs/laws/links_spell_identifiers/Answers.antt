-- The law is its lemma of names.
use Rattle.trace_pair.proofs.LinkNames.{links_spell_identifiers}
use Rattle.trace_pair.proofs.laws.links_spell_identifiers.Goals as goal

pub returns : goal.returns
returns c = links_spell_identifiers
