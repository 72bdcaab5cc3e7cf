use Rattle.std.proofs.Common.{arith}
use Rattle.can_log.proofs.HexTable.{value_is_digit}
use Rattle.can_log.proofs.DigitValues.{hex_value}
use Rattle.can_log.proofs.hexadecimal.hex_digit_value.Goals as goal

pub returns-clause-value : goal.returns-clause-value
returns-clause-value c = value_is_digit c.args.b (omega arith) c.requires

pub returns-clause-bound : goal.returns-clause-bound
returns-clause-bound c = rw (value_is_digit c.args.b (omega arith) c.requires) (hex_value c.args.b c.requires).0
