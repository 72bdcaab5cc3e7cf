-- A frame that completes a message has it collected, and counted for the rules; another one leaves all as it was.
use Rattle.std.proofs.Common.{ap, sym, subst, ◌∙◌}
use Rattle.std.proofs.lemmas.Result.{MatchResult-weaker, on_ok_weaker}
use Rattle.isotp_receive.specs.declared.TheConstants.{MESSAGE_LIMIT}
use Rattle.trace_log.specs.Messages.{messages_under}
use Rattle.trace_run.proofs.Promises.{completes_judged, completes_none}
use Rattle.trace_canon.specs.proving.SessionScript.{Collects}
use Rattle.trace_canon.proofs.Collecting.{counts_next, same_rules}
use Rattle.trace_canon.proofs.CompletedMessages.{completes_message}
use Rattle.trace_canon.proofs.collector.CollectorMachine.event.Goals as goal

pub returns-clause-ok : goal.returns-clause-ok
returns-clause-ok g c = on_ok_weaker c.take.result (λ taken rules start T e seen stood.
    let now = c.take.new.self in
    let completes = completes_judged rules T e c.args.seen c.in-Some.message seen c.in-Some.is in
    let collects = taken start.config.now (messages_under rules MESSAGE_LIMIT T) completes.step stood.collects in (
      record {
        collects = subst (λ N. Collects start.config.now N now.collected now.config.now) (sym completes.next) collects;
        ruled = same_rules collects.same stood.collects.same ∙ stood.ruled;
        counted = ap (λ a. a.items) c.take.ensures.spoken
            ∙ counts_next c.rules.result.now rules T e c.args.seen _ _ seen (c.rules.ensures ∙ stood.ruled) stood.counted c.count_message.ensures;
      },
      g.met.S.TextSink.nothing c.args._out.now,
    ))
    c.take.ensures.collects

pub returns-clause-err : goal.returns-clause-err
returns-clause-err g c =
    MatchResult-weaker c.take.result c.take.ensures.collects (λ done taken. tt)
    (λ error taken rules start T stood. g.met.S.TextSink.nothing c.args._out.now)

pub returns-clause-needs : goal.returns-clause-needs
returns-clause-needs g c = MatchResult-weaker c.take.result c.take.ensures.collects (λ done taken. tt) (λ error taken rules start T e seen stood.
    completes_message rules T e c.in-Some.message (completes_judged rules T e c.args.seen c.in-Some.message seen c.in-Some.is))

pub returns-in_default-clause-ok : goal.returns-in_default-clause-ok
returns-in_default-clause-ok g c = λ rules start T e seen stood.
    let now = c.args.self.now in (
      record {
        collects = subst (λ N. Collects start.config.now N now.collected now.config.now)
            (sym (completes_none rules T e c.args.seen seen c.in_default.is)) stood.collects;
        ruled = stood.ruled;
        counted = counts_next c.rules.result.now rules T e c.args.seen _ _ seen (c.rules.ensures ∙ stood.ruled) stood.counted c.count_message.ensures;
      },
      g.met.S.TextSink.nothing c.args._out.now,
    )
