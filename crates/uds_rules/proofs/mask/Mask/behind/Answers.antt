use Rattle.std.proofs.Common.{arith}
use Rattle.uds_rules.proofs.Bits.{bits_fit, added_bit, behind_is}
use Rattle.uds_rules.proofs.mask.Mask.behind.Goals as goal

pub overflow_mul-result : goal.overflow_mul-result
overflow_mul-result c =
    let fits = bits_fit c.self.inside.count c.self.inside.masked c.self.invariant (omega (arith, c.if-self-ge-MOST_PLACES.false)) in
    omega (arith, fits)

pub overflow_add-result : goal.overflow_add-result
overflow_add-result c =
    let fits = bits_fit c.self.inside.count c.self.inside.masked c.self.invariant (omega (arith, c.if-self-ge-MOST_PLACES.false)) in
    let bit = added_bit c.args.is_masked c.bit.result c.bit.ensures in
    omega (arith, fits, bit)

pub returns : goal.returns
returns c =
    behind_is c.args.is_masked c.args.self c.self.inside.count c.self.inside.masked c.bit.result c.self.inside.cuts c.self.view_is c.bit.ensures
    (omega (arith, c.if-self-ge-MOST_PLACES.false))
