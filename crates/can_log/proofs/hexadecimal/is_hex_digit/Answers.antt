use Rattle.std.proofs.Common.{arith}
use Rattle.can_log.proofs.HexTable.{is_digit}
use Rattle.can_log.proofs.hexadecimal.is_hex_digit.Goals as goal

pub returns : goal.returns
returns c = is_digit c.args.b (omega arith)
