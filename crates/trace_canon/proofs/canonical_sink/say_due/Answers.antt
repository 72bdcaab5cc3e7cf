-- The sink was put each message that is due; where memory was refused, none.
use Rattle.std.proofs.Common.{Err, [], ap, sym, subst, ◌∙◌}
use Rattle.isotp_receive.specs.declared.TheConstants.{MESSAGE_LIMIT}
use Rattle.isotp_segment.specs.Timed.{all_frames}
use Rattle.uds_exchange.specs.Judging.{sent}
use Rattle.trace_canon.specs.proving.Writing.{text_from}
use Rattle.trace_canon.specs.proving.Saying.{SaysPutMessage}
use Rattle.trace_canon.proofs.CanonicalSayings.{said_all, stays_where_it_stops, stops_for_memory}
use Rattle.trace_canon.proofs.canonical_sink.say_due.Goals as goal

pub returns-in-Ok-clause-says : goal.returns-in-Ok-clause-says
returns-in-Ok-clause-says g c = λ M stands judged.
    let due = c.in-Ok.ensures.puts M stands judged in
    let all = said_all g.S.TextSink.says g.met.S.TextSink.nothing g.met.S.TextSink.onward due.0 _ c.take.new.sink due.2 in
    let out_is = c.out-1.given.1 (sym all.same_out) in
    let progress_is = c.progress-1.given.1 (sym all.same_progress) in (
      due.0,
      due.1,
      progress_is ∙ all.progress,
      subst (λ o. g.S.TextSink.says c.args.out.now
          (text_from c.args.config.now c.args.progress.now (all_frames MESSAGE_LIMIT due.0)) o) (sym out_is) all.said,
    )

pub returns-in-Err-clause-needs : goal.returns-in-Err-clause-needs
returns-in-Err-clause-needs g c = λ M stands judged.
    stops_for_memory (SaysPutMessage g.S.TextSink.says) M (sent c.args.message) _ c.take.new.sink c.in-Err.fault
    (c.in-Err.ensures.stops M stands judged)
    (λ is. c.take.ensures.needs (c.in-Err.is ∙ ap Err is) M stands judged)

pub returns-in-Err-clause-err : goal.returns-in-Err-clause-err
returns-in-Err-clause-err g c =
    let S = g.S.TextSink in
    let same = stays_where_it_stops (SaysPutMessage S.says) _ c.take.new.sink c.in-Err.fault
    (λ is. (c.take.ensures.memory (c.in-Err.is ∙ ap Err is)).1) (λ is. (c.take.ensures.failed_only (c.in-Err.is ∙ ap Err is)).2)
    (λ e is. c.take.ensures.front e (c.in-Err.is ∙ ap Err is)) in
    let out_is = c.out-1.given.1 (ap (λ s. s.out.ghost_name) (sym same)) in
    let progress_is = c.progress-1.given.1 (ap (λ s. s.progress.ghost_name) (sym same)) in (
      progress_is ∙ ap (λ s. s.progress.now) same,
      subst (λ o. S.says c.args.out.now [] o) (sym (out_is ∙ ap (λ s. s.out.now) same)) (g.met.S.TextSink.nothing c.args.out.now),
    )
