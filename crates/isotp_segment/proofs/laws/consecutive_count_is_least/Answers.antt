use Rattle.isotp_segment.proofs.Promises.{consecutive_count_is_least}
use Rattle.isotp_segment.proofs.laws.consecutive_count_is_least.Goals as goal

pub returns : goal.returns
returns c = consecutive_count_is_least
