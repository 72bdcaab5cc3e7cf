use Rattle.std.proofs.Common.{cond, ltb, refl}
use Rattle.std.specs.Prelude.{◌==◌}
use Rattle.std.proofs.lemmas.Bool.{eqb-true}
use Rattle.std.proofs.lemmas.Simd.{zip2_splat_left}
use Rattle.can_log.proofs.LaneRuns.{lanes_pass}
use Rattle.can_log.proofs.stamp.are_zeros.Goals as goal

pub returns : goal.returns
returns c = λ none.
    let lanes = c.args.lanes in
    lanes_pass (λ b. b == 0) lanes _ _ c.requires c.fits-lanes.1 c.first_set.ensures _
    (zip2_splat_left (λ a b. cond (ltb a b) 255 0) 0 16 lanes c.requires) refl
    (eqb-true _ 16 none)
