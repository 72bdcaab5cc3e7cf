use Rattle.std.proofs.Common.{get_or, sym, subst}
use Rattle.std.proofs.lemmas.Simd.{pick_l_whole}
use Rattle.can_log.specs.proving.Plain.{AreDecimals}
use Rattle.can_log.proofs.LaneNumbers.{sixteen_is}
use Rattle.can_log.proofs.stamp.decimal_number.Goals as goal

pub returns : goal.returns
returns c =
    let d = c.args.digits in
    let whole = sym (pick_l_whole 0 d 16 c.requires.long) in
    rw whole (sixteen_is (get_or d 0 0) (get_or d 1 0) (get_or d 2 0) (get_or d 3 0) (get_or d 4 0) (get_or d 5 0) (get_or d 6 0) (get_or d 7 0) (get_or d 8 0) (get_or d 9 0) (get_or d 10 0) (get_or d 11 0) (get_or d 12 0) (get_or d 13 0) (get_or d 14 0) (get_or d 15 0) (subst AreDecimals whole c.requires.digits))
