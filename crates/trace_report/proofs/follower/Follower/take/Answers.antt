-- The rows of a frame, by whether it completed a message, and what the follower knows behind it.
use Rattle.std.proofs.Common.{◌≡◌, List, ap, sym, subst, ◌∙◌, [], ◌∷◌, ◌++◌}
use Rattle.isotp_receive.specs.declared.TheConstants.{MESSAGE_LIMIT}
use Rattle.isotp_receive.specs.Channels.{is_functional}
use Rattle.isotp_receive.specs.EventSeen.{seen_event}
use Rattle.isotp_receive.specs.Trace.{Entry}
use Rattle.uds_rules.specs.Rule.{RuleValue}
use Rattle.trace_log.specs.Messages.{messages_under}
use Rattle.trace_canon.specs.FirstFrames.{place_of}
use Rattle.trace_canon.specs.declared.reception_starts.FramePlace.{FramePlace}
use Rattle.trace_run.specs.Seen.{IsEventOf, IsSeen}
use Rattle.trace_run.specs.declared.machine.Seen.{Seen}
use Rattle.trace_run.proofs.Promises.{completes_judged}
use Rattle.trace_report.specs.Events.{asked_all_in}
use Rattle.trace_report.specs.Rows.{row_of}
use Rattle.trace_report.specs.proving.Following.{KnowsExtents, dropped_rows, row_if}
use Rattle.trace_report.proofs.Meeting.{message_event, met_next, met_none, rows_none, rows_of_message, unit_asks_none}
use Rattle.trace_report.proofs.follower.Follower.take.Goals as goal

-- what the frame did there
event_at : (rules : List RuleValue) (T : List Entry) (e : Entry) (seen : Seen) (here : FramePlace) → IsSeen rules T e seen
    → here ≡ record { line = seen.line; micros = seen.micros } → IsEventOf T e here.line here.micros seen.channel seen.event
event_at rules T e seen here is here_is = record {
  few = is.event.few;
  line = is.event.line ∙ ap (λ (p : FramePlace). p.line) (sym here_is);
  micros = is.event.micros ∙ ap (λ (p : FramePlace). p.micros) (sym here_is);
  channel = is.event.channel;
  did = is.event.did;
}

place_at : (rules : List RuleValue) (T : List Entry) (e : Entry) (seen : Seen) (here : FramePlace) → IsSeen rules T e seen
    → here ≡ record { line = seen.line; micros = seen.micros } → here ≡ place_of e
place_at rules T e seen here is here_is =
    here_is ∙ (λ i. let p : FramePlace = record { line = sym is.event.line i; micros = sym is.event.micros i } in p)

pub returns-in-Some-clause-next : goal.returns-in-Some-clause-next
returns-in-Some-clause-next c = λ rules T e seen known.
    let what = c.args.seen in
    let here = c.here_of-here.result in
    let message = c.in-Some.message in
    let completes = completes_judged rules T e what message seen c.in-Some.is in
    let at = event_at rules T e what here seen c.here_of-here.ensures in
    let to_all = c.take-extent.ensures.functional ∙ ap is_functional (sym seen.event.channel) in
    record {
      met = met_next rules T e message here.micros c.args.self.now.asked c.take-extent.result.is_functional c.take_message.new.self completes (sym at.micros)
          to_all known.met.asked_then
          (c.take_message.ensures.next (messages_under rules MESSAGE_LIMIT T) (asked_all_in MESSAGE_LIMIT rules T) completes.step completes.item
          (λ by_unit. to_all ∙ unit_asks_none e.channel (completes.dir ∙ by_unit)) known.met.waits known.met.silence);
      extents = subst (λ p. KnowsExtents (T ++ e ∷ []) p) (sym c.take_message.ensures.extents)
          (c.take-extent.ensures.next T e at known.extents);
    }

pub returns-in-Some-clause-rows : goal.returns-in-Some-clause-rows
returns-in-Some-clause-rows c = λ rules T e seen known.
    let M = messages_under rules MESSAGE_LIMIT T in
    let what = c.args.seen in
    let here = c.here_of-here.result in
    let at = event_at rules T e what here seen c.here_of-here.ensures in
    let message = c.in-Some.message in
    let completes = completes_judged rules T e what message seen c.in-Some.is in
    let stands = place_at rules T e what here seen c.here_of-here.ensures in
    let ended = c.ended_rows-first.ensures e stands in
    let closing = c.take_message.ensures.closing M (asked_all_in MESSAGE_LIMIT rules T) completes.step known.met.waits known.met.silence in
    let row = c.take_message.ensures.row M completes.step completes.item in
    let first = c.take-extent.ensures.first T e at known.extents (completes.whole, completes.did) in
    let frames = c.take-extent.ensures.frames T e at known.extents (completes.whole, completes.did) in
    rows_of_message (row_if c.ended_rows-first.result) (row_if c.take_message.result.0) (row_of c.take_message.result.1)
    ∙ (λ i. ended i ++ (closing i ++ row i ∷ []))
    ∙ message_event rules T e (seen_event what.event) message c.args.self.now.asked here c.take-extent.result at.did completes
    known.met.asked_then stands first frames (c.take-extent.ensures.functional ∙ ap is_functional (sym seen.event.channel))

pub returns-in-None-clause-next : goal.returns-in-None-clause-next
returns-in-None-clause-next c = λ rules T e seen known.
    let what = c.args.seen in
    let here = c.here_of-here.result in
    record {
      met = met_none rules T e what seen c.in-None.is _ (record { waits = known.met.waits; silence = known.met.silence; asked_then = known.met.asked_then });
      extents = c.take-extent.ensures.next T e (event_at rules T e what here seen c.here_of-here.ensures) known.extents;
    }

pub returns-in-None-clause-rows : goal.returns-in-None-clause-rows
returns-in-None-clause-rows c = λ rules T e seen known.
    let what = c.args.seen in
    let here = c.here_of-here.result in
    let stands = place_at rules T e what here seen c.here_of-here.ensures in
    rows_none rules T e what here (row_if c.ended_rows-first.result) (row_if c.dropped_rows.result) seen c.in-None.is stands (c.ended_rows-first.ensures e stands)
    (c.dropped_rows.ensures ∙ ap (λ d. dropped_rows here d (seen_event what.event)) c.dir.ensures)
