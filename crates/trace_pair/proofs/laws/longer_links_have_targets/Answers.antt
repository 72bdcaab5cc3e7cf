-- The law is its lemma.
use Rattle.trace_pair.proofs.LongerLinks.{longer_links_have_targets}
use Rattle.trace_pair.proofs.laws.longer_links_have_targets.Goals as goal

pub returns : goal.returns
returns c = longer_links_have_targets
