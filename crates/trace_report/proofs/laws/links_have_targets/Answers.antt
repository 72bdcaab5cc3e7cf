-- The law is its lemma of identifiers.
use Rattle.trace_report.proofs.DistinctIdentifiers.{links_have_targets}
use Rattle.trace_report.proofs.laws.links_have_targets.Goals as goal

pub returns : goal.returns
returns c = links_have_targets
