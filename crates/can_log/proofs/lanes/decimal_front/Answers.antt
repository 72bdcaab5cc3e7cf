use Rattle.std.proofs.Common.{ℕ, cond, ltb, refl}
use lib.Lanes.{chunk}
use Rattle.std.specs.Char.{is_ascii_digit}
use Rattle.std.proofs.lemmas.Simd.{length-chunk, splat_is_map, zip2_splat}
use Rattle.can_log.proofs.LaneRuns.{lanes_joined, run_in_front}
use Rattle.can_log.proofs.lanes.decimal_front.Goals as goal

pub returns : goal.returns
returns c =
    let v = chunk 0 16 c.args.bytes.now in
    let long = length-chunk 0 16 c.args.bytes.now c.requires in
    run_in_front is_ascii_digit c.args.bytes.now _ _ c.requires c.type_inv.bytes c.first_set.ensures _
    (lanes_joined (λ a b. cond (ltb a b) 255 0) _ _ v (splat_is_map v 16 9 long) (zip2_splat {Y = ℕ} _ v 16 48 long)) refl
