-- The items that are not decided are said behind those that were.
use Rattle.isotp_receive.specs.declared.TheConstants.{MESSAGE_LIMIT}
use Rattle.trace_log.specs.Messages.{messages_under}
use Rattle.trace_canon.proofs.WatchScripts.{watched}
use Rattle.trace_canon.proofs.watcher.WatcherMachine.end.Goals as goal

pub returns-clause-says : goal.returns-clause-says
returns-clause-says g c = λ rules start T stood standing.
    let self = c.args.self in
    watched g.S.TextSink.says start.style self.style rules self.rules.now T self.decider self.number _ c.args.out.now _ stood
    (c.say_undecided.ensures (messages_under rules MESSAGE_LIMIT T) stood.decides)
