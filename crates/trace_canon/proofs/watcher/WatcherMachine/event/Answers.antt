-- A frame that completes a message has the items said that it decides; another one says nothing.
use Rattle.std.proofs.lemmas.Result.{on_err_weaker}
use Rattle.isotp_receive.specs.declared.TheConstants.{MESSAGE_LIMIT}
use Rattle.trace_log.specs.Messages.{messages_under}
use Rattle.uds_exchange.specs.Decider.{IsKept}
use Rattle.uds_exchange.specs.Judging.{sent}
use Rattle.trace_run.proofs.Promises.{completes_judged, completes_none}
use Rattle.trace_canon.proofs.Results.{two_ok}
use Rattle.trace_canon.proofs.CompletedMessages.{completes_such}
use Rattle.trace_canon.proofs.WatchScripts.{watches_next, watches_on}
use Rattle.trace_canon.proofs.watcher.WatcherMachine.event.Goals as goal

pub returns-clause-ok : goal.returns-clause-ok
returns-clause-ok g c = two_ok c.say_decided.result (λ stands says rules start T e seen stood.
    let M = messages_under rules MESSAGE_LIMIT T in
    let self = c.args.self.now in
    let message = c.in-Some.message in
    let completes = completes_judged rules T e c.args.seen message seen c.in-Some.is in
    watches_next g.S.TextSink.says start.style self.style rules self.rules.now T e (sent message) self.decider _ self.number _ c.args.out.now _
    seen.event.few completes.next stood
    (stands M stood.decides completes.step) (says M stood.decides completes.step)) c.say_decided.ensures.stands c.say_decided.ensures.says

pub returns-clause-err : goal.returns-clause-err
returns-clause-err g c = on_err_weaker c.say_decided.result (λ quiet rules start T stood. quiet) c.say_decided.ensures.err

pub returns-clause-needs : goal.returns-clause-needs
returns-clause-needs g c = on_err_weaker c.say_decided.result (λ kept rules start T e seen stood.
    let message = c.in-Some.message in
    let completes = completes_judged rules T e c.args.seen message seen c.in-Some.is in
    completes_such IsKept rules T e message completes (kept (messages_under rules MESSAGE_LIMIT T) stood.decides completes.step))
    c.say_decided.ensures.needs

pub returns-in_default-clause-ok : goal.returns-in_default-clause-ok
returns-in_default-clause-ok g c = λ rules start T e seen stood.
    let self = c.args.self.now in
    watches_on g.S.TextSink.says start.style self.style rules self.rules.now T g.met.S.TextSink.nothing e self.decider self.number c.args.out.now
    seen.event.few (completes_none rules T e c.args.seen seen c.in_default.is) stood
