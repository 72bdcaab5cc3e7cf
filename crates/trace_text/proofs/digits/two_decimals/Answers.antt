-- The pairs of the table are the digits of their numbers.
use Rattle.trace_text.proofs.Pairs.{pair_at}
use Rattle.trace_text.proofs.digits.two_decimals.Goals as goal

pub returns : goal.returns
returns c = pair_at c.args.number c.requires
