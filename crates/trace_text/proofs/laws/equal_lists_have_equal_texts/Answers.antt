-- The law is the lemma of equal lists.
use Rattle.trace_text.proofs.EqualLists.{equal_lists_have_equal_texts}
use Rattle.trace_text.proofs.laws.equal_lists_have_equal_texts.Goals as goal

pub returns : goal.returns
returns c = equal_lists_have_equal_texts
