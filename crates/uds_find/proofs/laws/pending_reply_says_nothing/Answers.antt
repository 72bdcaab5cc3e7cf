use Rattle.uds_find.proofs.Sayings.{pending_reply_says_nothing}
use Rattle.uds_find.proofs.laws.pending_reply_says_nothing.Goals as goal

pub returns : goal.returns
returns c = pending_reply_says_nothing
