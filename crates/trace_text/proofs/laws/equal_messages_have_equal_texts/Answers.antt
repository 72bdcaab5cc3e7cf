-- The law is the lemma of messages under rules.
use Rattle.trace_text.proofs.RuledWords.{equal_messages_have_equal_texts}
use Rattle.trace_text.proofs.laws.equal_messages_have_equal_texts.Goals as goal

pub returns : goal.returns
returns c = equal_messages_have_equal_texts
