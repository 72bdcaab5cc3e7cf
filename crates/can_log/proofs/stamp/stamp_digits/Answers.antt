use Rattle.std.proofs.Common.{sym, refl}
use Rattle.std.proofs.lemmas.Simd.{pick_l_whole}
use Rattle.can_log.proofs.stamp.stamp_digits.Goals as goal

pub returns : goal.returns
returns c =
    let whole = sym (pick_l_whole 0 c.args.stamp.now 17 c.requires) in
    rw whole refl
