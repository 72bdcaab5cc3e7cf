use Rattle.std.proofs.Common.{arith}
use Rattle.uds_rules.proofs.Masks.{no_more_bytes}
use Rattle.uds_rules.proofs.mask.mask_bytes.Goals as goal

pub returns : goal.returns
returns c =
    no_more_bytes c.bytes.bytes.items _ c.bytes.at c.bytes.left.places (omega (arith, c.bytes-test.false, c.bytes.invariant.long)) c.bytes.invariant.laid
