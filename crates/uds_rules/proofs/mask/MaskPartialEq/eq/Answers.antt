-- Two masks are equal where their fields are, which are compared one after another.
use Rattle.std.proofs.Common.{rules}
use Rattle.uds_rules.proofs.Bits.{equal_fields}
use Rattle.uds_rules.proofs.mask.MaskPartialEq.eq.Goals as goal

pub returns : goal.returns
returns c =
    equal_fields _ _ _ _ _ _ c.args.self.now c.args.other.now _ _ _ c.eq.ensures c.and_eq.ensures c.and_eq-2.ensures
    (search rules) (search rules) (search rules) (search rules)
