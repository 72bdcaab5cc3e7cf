use Rattle.std.proofs.Common.{ℕ, ◌<◌, cond, ltb, refl, bit_and, subst, sym}
use lib.Lanes.{chunk}
use Rattle.std.proofs.lemmas.Simd.{length-chunk, splat_is_map, zip2_splat}
use Rattle.can_log.proofs.DigitMasks.{mask_made, mask_small}
use Rattle.can_log.proofs.LaneRuns.{lanes_joined}
use Rattle.can_log.proofs.lanes.other_digits.Goals as goal

pub returns-clause-mask : goal.returns-clause-mask
returns-clause-mask c =
    let v = chunk 0 16 c.args.bytes.now in
    let long = length-chunk 0 16 c.args.bytes.now c.requires in
    mask_made c.args.bytes.now _ c.requires c.type_inv.bytes _
    (lanes_joined bit_and _ _ v
    (lanes_joined (λ a b. cond (ltb a b) 255 0) _ _ v (splat_is_map v 16 9 long) (zip2_splat {Y = ℕ} _ v 16 48 long))
    (lanes_joined (λ a b. cond (ltb a b) 255 0) _ _ v (splat_is_map v 16 5 long) (lanes_joined _ _ _ v (zip2_splat {Y = ℕ} _ v 16 32 long) (splat_is_map v 16 97 long))))
    refl

pub returns-clause-small : goal.returns-clause-small
returns-clause-small c = subst (λ (n : ℕ). n < 65536) (sym (returns-clause-mask c)) (mask_small c.args.bytes.now c.requires)
