-- The message that a frame completes is said with the place of its first frame, as JSON also as a reply; then the starts
-- are moved, and the open request is that behind the message.
use Rattle.std.proofs.Common.{◌≡◌, ap, sym, subst, ◌∙◌}
use Rattle.isotp_receive.specs.declared.TheConstants.{MESSAGE_LIMIT}
use Rattle.uds_exchange.specs.Judging.{sent}
use Rattle.trace_run.proofs.Promises.{completes_judged}
use Rattle.trace_canon.specs.MessagesScript.{told_reply}
use Rattle.trace_canon.specs.OpenRequests.{reply_behind}
use Rattle.trace_canon.specs.proving.Asking.{asked_with}
use Rattle.trace_canon.proofs.AskedRequests.{asked_next, asked_on}
use Rattle.trace_canon.proofs.SaidMessages.{nothing_said, object_said, worded_said}
use Rattle.trace_canon.proofs.messenger.MessengerMachine.event.Goals as goal

pub returns-in_default-clause-ok : goal.returns-in_default-clause-ok
returns-in_default-clause-ok g c = λ rules start T e seen stood. (
  record {
    same = stood.same;
    same_rules = stood.same_rules;
    begun = c.take-first.ensures.begun T e seen.event stood.begun;
    asked = λ objects. stood.asked objects ∙ sym (asked_on rules T e c.args.seen seen c.in_default.is);
  },
  subst (λ text. g.S.TextSink.says c.args.out.now text c.args.out.now)
      (sym (nothing_said start.notation rules T e c.args.seen seen c.in_default.is))
      (g.met.S.TextSink.nothing c.args.out.now),
)

pub returns-in-Text-clause-ok : goal.returns-in-Text-clause-ok
returns-in-Text-clause-ok g c = λ rules start T e seen stood.
    let what = c.args.seen in
    let self = c.args.self.now in
    let judged = c.in-Some.message in
    let completes = completes_judged rules T e what judged seen c.in-Some.is in
    let first = c.take-first.ensures.place T e seen.event stood.begun (completes.whole, completes.did) in
    let said = worded_said rules T e judged completes what seen start.notation self.notation self.rules.now
    c.take-first.result c.is_functional.result stood.same stood.same_rules first c.is_functional.ensures c.in-Text.is in (
      record {
        same = stood.same;
        same_rules = stood.same_rules;
        begun = c.take-first.ensures.begun T e seen.event stood.begun;
        asked = λ objects. absurd (cc (sym c.in-Text.is ∙ stood.same ∙ objects));
      },
      subst (λ text. g.S.TextSink.says c.args.out.now text c.say_message_line.new.out) said c.say_message_line.ensures,
    )

pub returns-in-Json-clause-ok : goal.returns-in-Json-clause-ok
returns-in-Json-clause-ok g c = λ rules start T e seen stood.
    let what = c.args.seen in
    let self = c.args.self.now in
    let judged = c.in-Some.message in
    let completes = completes_judged rules T e what judged seen c.in-Some.is in
    let first = c.take-first.ensures.place T e seen.event stood.begun (completes.whole, completes.did) in
    let asked = stood.asked (sym stood.same ∙ c.in-Json.is) in
    let same_rules = stood.same_rules in
    let step = completes.step in
    let reply : reply_behind self.rules.now self.asking judged.step judged.bytes.now ≡ told_reply MESSAGE_LIMIT rules T (sent judged) =
    (λ i. reply_behind (same_rules i) (asked i) (step i) judged.bytes.now) in
    let said = object_said rules T e judged completes what seen start.notation self.notation self.rules.now
    c.take-first.result c.is_functional.result stood.same stood.same_rules first c.is_functional.ensures _ c.in-Json.is reply in (
      record {
        same = stood.same;
        same_rules = stood.same_rules;
        begun = c.take-first.ensures.begun T e seen.event stood.begun;
        asked = λ objects.
            c.say_next_object.ensures.now ∙ ap (λ request. asked_with judged.step request judged.bytes.now what.micros) asked
            ∙ sym (asked_next rules T e judged what.micros completes seen.event.micros);
      },
      subst (λ text. g.S.TextSink.says c.args.out.now text c.say_next_object.new.out) said c.say_next_object.ensures.says,
    )
