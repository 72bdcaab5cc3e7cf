-- Those that are held were put and then the message, or a front of them, and then came the fault.
use Rattle.std.proofs.Common.{refl}
use Rattle.uds_exchange.proofs.PuttingMessages.{fails-front, puts_join}
use Rattle.std.proofs.lemmas.Result.{on_ok_weaker}
use Rattle.uds_exchange.proofs.Results.{handed_on}
use Rattle.uds_exchange.proofs.judged_orderer.put_behind.Goals as goal

pub returns-in_err-put_all-clause-err : goal.returns-in_err-put_all-clause-err
returns-in_err-put_all-clause-err g c =
    handed_on c.from_residual.result _ _ c.from_residual.ensures.1
    (fails-front g.S.MessageSink.after_ok g.S.MessageSink.after_err _ _ _ _ _ c.in_err-put_all.ensures.err)

pub returns-clause-ok : goal.returns-clause-ok
returns-clause-ok g c =
    on_ok_weaker c.put.result (λ h. puts_join g.S.MessageSink.after_ok g.S.MessageSink.after_err _ _ _ _ _ c.in_ok-put_all.ensures.ok
    (_, h, refl)) c.put.ensures.ok
