use Rattle.can_log.proofs.Promises.{completable_has_no_line_feed}
use Rattle.can_log.proofs.laws.completable_has_no_line_feed.Goals as goal

pub returns : goal.returns
returns c = completable_has_no_line_feed
