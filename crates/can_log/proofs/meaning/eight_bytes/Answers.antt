use Rattle.std.proofs.Common.{arith}
use Rattle.can_log.proofs.SpelledBytes.{all_bytes}
use Rattle.can_log.proofs.meaning.eight_bytes.Goals as goal

pub returns : goal.returns
returns c = all_bytes c.args.digits.now c.spelled.result c.requires.long (omega arith) c.requires.text.0.each c.spelled.ensures
