use Rattle.uds_exchange.proofs.OrdererSteps.{puts_go_on}
use Rattle.uds_exchange.proofs.laws.puts_go_on.Goals as goal

pub returns : goal.returns
returns g c = puts_go_on g.S.MessageSink.after_ok g.S.MessageSink.after_err
