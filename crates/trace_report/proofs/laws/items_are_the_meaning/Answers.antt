-- The law is its lemma of the items of a session.
use Rattle.trace_report.proofs.SessionItems.{items_are_the_meaning}
use Rattle.trace_report.proofs.laws.items_are_the_meaning.Goals as goal

pub returns : goal.returns
returns c = items_are_the_meaning
