use Rattle.can_log.proofs.Promises.{line_has_no_line_feed}
use Rattle.can_log.proofs.laws.line_has_no_line_feed.Goals as goal

pub returns : goal.returns
returns c = line_has_no_line_feed
