use Rattle.std.proofs.Common.{length}
use Rattle.uds_rules.proofs.pattern.+mask_in.Given as goal

abbrev pub decreases-mask_in : goal.decreases-mask_in
decreases-mask_in l = length l.marks.now
