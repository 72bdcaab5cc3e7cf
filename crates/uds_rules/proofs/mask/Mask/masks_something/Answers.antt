use Rattle.std.proofs.Common.{◌≡◌, ◌==◌, true, false, arith}
use Rattle.uds_rules.proofs.Bits.{some_masked}
use Rattle.uds_rules.proofs.mask.Mask.masks_something.Goals as goal

pub returns-then-self-ne0 : goal.returns-then-self-ne0
returns-then-self-ne0 c =
    let some = some_masked c.self.inside.count c.self.inside.masked c.self.inside.cuts c.args.self.now c.self.invariant c.self.view_is in
    let off : (c.self.inside.masked == 0) ≡ false = grind (arith, c.if-self-ne0.true) in
    rw off (rw off at some)

pub returns-else-self-ne0 : goal.returns-else-self-ne0
returns-else-self-ne0 c =
    let some = some_masked c.self.inside.count c.self.inside.masked c.self.inside.cuts c.args.self.now c.self.invariant c.self.view_is in
    let on : (c.self.inside.masked == 0) ≡ true = grind (arith, c.if-self-ne0.false) in
    rw on at some
