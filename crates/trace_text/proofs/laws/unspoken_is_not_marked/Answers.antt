-- The law is the lemma of messages under rules.
use Rattle.trace_text.proofs.RuledWords.{no_rules_mark_nothing, unspoken_is_not_marked}
use Rattle.trace_text.proofs.laws.unspoken_is_not_marked.Goals as goal

pub returns : goal.returns
returns c = record { rules = unspoken_is_not_marked; none = no_rules_mark_nothing }
