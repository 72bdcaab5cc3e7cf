-- The law is the lemma of equal lists.
use Rattle.trace_canon.proofs.SameLists.{same_meaning_same_list}
use Rattle.trace_canon.proofs.laws.same_meaning_same_list.Goals as goal

pub returns : goal.returns
returns c = same_meaning_same_list
