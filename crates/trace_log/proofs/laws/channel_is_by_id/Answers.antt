use Rattle.trace_log.proofs.Directions.{channel_is_by_id}
use Rattle.trace_log.proofs.laws.channel_is_by_id.Goals as goal

pub returns : goal.returns
returns c = channel_is_by_id
