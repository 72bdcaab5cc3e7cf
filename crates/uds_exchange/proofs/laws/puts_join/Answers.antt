use Rattle.uds_exchange.proofs.PuttingMessages.{puts_join}
use Rattle.uds_exchange.proofs.laws.puts_join.Goals as goal

pub returns : goal.returns
returns g c = puts_join g.S.MessageSink.after_ok g.S.MessageSink.after_err
