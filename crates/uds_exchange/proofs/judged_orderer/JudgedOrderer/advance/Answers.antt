-- Where the sink refuses the message itself, nothing was put before it.
use Rattle.std.proofs.Common.{ap}
use Rattle.uds_exchange.specs.Judging.{sent}
use Rattle.uds_exchange.specs.Orderer.{JudgedOrdererValue}
use Rattle.uds_exchange.proofs.PuttingMessages.{fails-first}
use Rattle.uds_exchange.proofs.judged_orderer.JudgedOrderer.advance.Goals as goal

pub returns-in-Err-put-clause-err : goal.returns-in-Err-put-clause-err
returns-in-Err-put-clause-err g c =
    rw (c.fail-in-Err-put.ensures.fault, c.in-Pass.is) (
      cc,
      ap (λ (o : JudgedOrdererValue). o.has_failed) c.fail-in-Err-put.ensures.failed,
      fails-first g.S.MessageSink.after_ok g.S.MessageSink.after_err _ _ (sent c.args.message) _ _ c.in-Err-put.ensures.err,
    )
