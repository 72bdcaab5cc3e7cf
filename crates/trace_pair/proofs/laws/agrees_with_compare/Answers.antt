-- The law is its lemma, by the law of the items that a log keeps.
use Rattle.trace_pair.proofs.Agreeing.{agrees}
use Rattle.trace_pair.proofs.laws.agrees_with_compare.Goals as goal

pub returns : goal.returns
returns c = agrees c.items_are_the_meaning.ensures
