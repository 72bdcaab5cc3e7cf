use Rattle.can_log.proofs.Promises.{line_feed_ends_line}
use Rattle.can_log.proofs.laws.line_feed_ends_line.Goals as goal

pub returns : goal.returns
returns c = line_feed_ends_line
