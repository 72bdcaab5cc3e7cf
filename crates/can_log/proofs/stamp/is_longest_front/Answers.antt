use Rattle.std.proofs.Common.{ℕ, get_or, sym, refl}
use Rattle.std.proofs.lemmas.Simd.{pick_l_whole}
use Rattle.can_log.proofs.LongestFronts.{longest_front}
use Rattle.can_log.proofs.stamp.is_longest_front.Goals as goal

pub are_zeros-requires : goal.are_zeros-requires
are_zeros-requires c =
    let whole = sym (pick_l_whole 0 c.args.front.now 20 c.requires) in
    rw whole refl

pub returns : goal.returns
returns c = λ all.
    let front = c.args.front.now in
    let whole = sym (pick_l_whole 0 front 20 c.requires) in
    let zeros = rw whole at (c.are_zeros.ensures all) in
    rw whole (longest_front (λ (k : ℕ). get_or front k 0) (λ k. (c.type_inv.front k).fits) zeros)
