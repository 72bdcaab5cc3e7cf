-- Items that are equal lengthen the front that is; where one list ends, only it does.
use Rattle.std.proofs.Common.{◌≡◌, ◌≢◌, ◌<◌, [], min, length, sym, ◌∙◌, arith, refl}
use Rattle.direction.specs.declared.Dir.TheVariants.{Tester}
use Rattle.uds_exchange.specs.Meaning.{stray}
use Rattle.uds_exchange.proofs.ListDifferences.{take-more-same, shorter-differs}
use Rattle.uds_exchange.proofs.meaning.Meaning.first_difference.Goals as goal

pub loop-i-preserved : goal.loop-i-preserved
loop-i-preserved c =
    let xs = c.args.self.now in
    let ys = c.args.other.now in
    let below : c.loop-i.i < length xs = omega arith in
    take-more-same xs ys c.loop-i.i (stray Tester []) below c.loop-i.invariant
    (sym c.item.ensures ∙ c.if-not-is_same.ensures.0 refl ∙ c.item-in-loop-i.ensures)

pub returns-else-len : goal.returns-else-len
returns-else-len c =
    let xs = c.args.self.now in
    let ys = c.args.other.now in
    let n = c.min-shorter.result in
    let whole : c.loop-i.i ≡ n = omega arith in
    let unequal : length xs ≢ length ys = λ h. c.if-len.false (omega (arith, h)) in
    let shorter : n ≡ min (length xs) (length ys) = omega arith in
    (rw whole at c.loop-i.invariant, shorter-differs xs ys n shorter unequal)
