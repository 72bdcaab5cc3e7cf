use Rattle.trace_log.proofs.ReadAgain.{same_meaning_same_text}
use Rattle.trace_log.proofs.laws.same_meaning_same_text.Goals as goal

pub returns : goal.returns
returns c = same_meaning_same_text
