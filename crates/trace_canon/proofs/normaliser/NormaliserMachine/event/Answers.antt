-- A frame that completes a message has what is then due said; another one says nothing.
use Rattle.std.proofs.lemmas.Result.{on_err_weaker}
use Rattle.isotp_receive.specs.declared.TheConstants.{MESSAGE_LIMIT}
use Rattle.trace_log.specs.Messages.{messages_under}
use Rattle.uds_exchange.specs.Judging.{sent}
use Rattle.uds_exchange.specs.Orderer.{IsHeld}
use Rattle.trace_run.proofs.Promises.{completes_judged, completes_none}
use Rattle.trace_canon.proofs.Results.{two_ok}
use Rattle.trace_canon.proofs.CanonicalMachines.{says_next, says_nothing_more}
use Rattle.trace_canon.proofs.CompletedMessages.{completes_such}
use Rattle.trace_canon.proofs.normaliser.NormaliserMachine.event.Goals as goal

pub returns-clause-ok : goal.returns-clause-ok
returns-clause-ok g c = two_ok c.say_due.result (λ stands says rules start T e seen stood.
    let M = messages_under rules MESSAGE_LIMIT T in
    let self = c.args.self.now in
    let message = c.in-Some.message in
    let completes = completes_judged rules T e c.args.seen message seen c.in-Some.is in
    says_next g.S.TextSink.says rules start.config.now self.config.now T e (sent message) self.orderer _ self.progress _ c.args.out.now _
    completes.next stood
    (stands M stood.ordered completes.step) (says M stood.ordered completes.step)) c.say_due.ensures.stands c.say_due.ensures.says

pub returns-clause-err : goal.returns-clause-err
returns-clause-err g c = on_err_weaker c.say_due.result (λ refused rules start T stood. refused.1) c.say_due.ensures.err

pub returns-clause-needs : goal.returns-clause-needs
returns-clause-needs g c = on_err_weaker c.say_due.result (λ held rules start T e seen stood.
    let message = c.in-Some.message in
    let completes = completes_judged rules T e c.args.seen message seen c.in-Some.is in
    completes_such IsHeld rules T e message completes (held (messages_under rules MESSAGE_LIMIT T) stood.ordered completes.step))
    c.say_due.ensures.needs

pub returns-in_default-clause-ok : goal.returns-in_default-clause-ok
returns-in_default-clause-ok g c = λ rules start T e seen stood.
    let self = c.args.self.now in
    says_nothing_more g.S.TextSink.says g.met.S.TextSink.nothing rules start.config.now self.config.now T e self.orderer self.progress
    c.args.out.now (completes_none rules T e c.args.seen seen c.in_default.is) stood
