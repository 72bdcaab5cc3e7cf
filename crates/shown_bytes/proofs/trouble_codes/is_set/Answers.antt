-- A byte has no bit from 8 on.
use Rattle.std.proofs.Common.{arith}
use Rattle.shown_bytes.proofs.CodesBehind.{high_bit_is_not_set}
use Rattle.shown_bytes.proofs.trouble_codes.is_set.Goals as goal

pub returns-else-bit-lt8 : goal.returns-else-bit-lt8
returns-else-bit-lt8 c = high_bit_is_not_set c.args.status c.args.bit (omega (arith, c.ranges.status.fits)) c.if-bit-lt8.false
