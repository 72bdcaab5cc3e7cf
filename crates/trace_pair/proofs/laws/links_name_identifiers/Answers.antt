-- The law is its lemma of the numbers of links.
use Rattle.trace_pair.proofs.NumberedChanges.{links_name_identifiers}
use Rattle.trace_pair.proofs.laws.links_name_identifiers.Goals as goal

pub returns : goal.returns
returns c = links_name_identifiers
