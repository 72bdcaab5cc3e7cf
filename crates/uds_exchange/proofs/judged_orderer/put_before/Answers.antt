-- The message was put and then those that are held, or a front of them, and then came the fault.
use Rattle.uds_exchange.proofs.PuttingMessages.{fails-first, fails-cons}
use Rattle.uds_exchange.proofs.Results.{if_err_along, handed_on}
use Rattle.uds_exchange.proofs.judged_orderer.put_before.Goals as goal

pub returns-in_err-put-clause-err : goal.returns-in_err-put-clause-err
returns-in_err-put-clause-err g c =
    handed_on c.from_residual.result _ _ c.from_residual.ensures.1
    (fails-first g.S.MessageSink.after_ok g.S.MessageSink.after_err _ _ (c.args.dir, c.args.message.now) _ _ c.in_err-put.ensures.err)

pub returns-clause-err : goal.returns-clause-err
returns-clause-err g c =
    if_err_along c.put_all.result _ _ (λ e f.
    fails-cons g.S.MessageSink.after_ok g.S.MessageSink.after_err _ _ _ (c.args.dir, c.args.message.now) _ _ c.in_ok-put.ensures.ok f)
    c.put_all.ensures.err
