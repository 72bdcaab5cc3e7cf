-- The law is its lemma of the rows that tell a loss.
use Rattle.trace_pair.proofs.LossesOnce.{each_loss_stands_once}
use Rattle.trace_pair.proofs.laws.each_loss_stands_once.Goals as goal

pub returns : goal.returns
returns c = each_loss_stands_once
