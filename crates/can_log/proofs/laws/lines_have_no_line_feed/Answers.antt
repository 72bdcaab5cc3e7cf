use Rattle.can_log.proofs.Promises.{lines_have_no_line_feed}
use Rattle.can_log.proofs.laws.lines_have_no_line_feed.Goals as goal

pub returns : goal.returns
returns c = lines_have_no_line_feed
