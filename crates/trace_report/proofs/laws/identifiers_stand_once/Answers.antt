-- The law is its lemma of identifiers.
use Rattle.trace_report.proofs.DistinctIdentifiers.{identifiers_stand_once}
use Rattle.trace_report.proofs.laws.identifiers_stand_once.Goals as goal

pub returns : goal.returns
returns c = identifiers_stand_once
