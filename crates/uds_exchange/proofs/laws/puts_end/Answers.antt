use Rattle.uds_exchange.proofs.OrdererSteps.{puts_end}
use Rattle.uds_exchange.proofs.laws.puts_end.Goals as goal

pub returns : goal.returns
returns g c = puts_end g.S.MessageSink.after_ok g.S.MessageSink.after_err
