-- The run stops for the length that the frame announces; or rules make of its message what they make, or are refused
-- memory for it; then it is judged, and the machine says its text, or is refused memory.
use Rattle.std.proofs.Common.{List, ◌++◌, ◌+◌, [], ◌≡◌, ap, sym, subst, ◌∙◌, None, Some, inl, inr}
use Rattle.isotp_receive.specs.declared.TheConstants.{MESSAGE_LIMIT}
use Rattle.isotp_receive.specs.Channels.{dir_of}
use Rattle.isotp_receive.specs.EventSeen.{seen_event}
use Rattle.isotp_receive.specs.Verdict.{EventValue, VerdictValue, told_message}
use Rattle.direction.specs.Dir.{Message}
use Rattle.direction.specs.declared.Dir.{Dir}
use Rattle.trace_log.specs.Messages.{messages_under}
use Rattle.uds_rules.specs.Rule.{RuleValue, is_masked}
use Rattle.uds_rules.specs.Under.{left_out, under}
use Rattle.trace_run.specs.proving.Telling.{oversize_for}
use Rattle.trace_run.proofs.SeenMessages.{few_left_out, few_under, seen_under, told_by}
use Rattle.trace_run.proofs.ToldFrames.{tells_next, stops_at}
use Rattle.trace_run.proofs.StoppedLines.{stopped_for, not_stopped_for}
use Rattle.trace_run.proofs.telling.Telling.take.Goals as goal

-- what is shown under the rules of the configuration, by the side that was found, is what the rules at the start leave of
-- the message
left_under : (rules own : List RuleValue) (d dir : Dir) (verdict : VerdictValue) (shown : List Message)
    → shown ≡ under own (told_message dir verdict) → rules ≡ own → dir ≡ d → shown ≡ under rules (told_message d verdict)
left_under rules own d dir verdict shown is ruled same =
    is ∙ ap (λ r. under r (told_message dir verdict)) (sym ruled) ∙ ap (λ x. under rules (told_message x verdict)) same

pub returns-in-Some-clause-told : goal.returns-in-Some-clause-told
returns-in-Some-clause-told g c = λ T e seen.
    let M = g.M.Machine in
    record {
      ok = tt;
      err = λ start ruled tells.
          let script = M.script start.rules start.machine in
          let strict = c.is_strict.ensures start.rules start.machine T tells.machine_stands in
          let why = stopped_for script.strict T e (seen_event c.args.frame.event) c.in-Some.announced seen.did
          (subst (λ b. oversize_for b (seen_event c.args.frame.event).verdict ≡ Some c.in-Some.announced) strict
          (sym c.oversize_for.ensures ∙ c.in-Some.is)) in
          record { within = tells.within; reason = (why.0, sym seen.line, why.1); carried = tells.carried };
      kept = λ start earlier ruled tells sure.
          record { within = sure.within; mid = sure.mid; said = sure.said; wrote = sure.wrote; carried = sure.carried };
    }

pub returns-in-Err-clause-told : goal.returns-in-Err-clause-told
returns-in-Err-clause-told g c = λ T e seen.
    let M = g.M.Machine in
    record {
      ok = tt;
      err = λ start ruled tells.
          let script = M.script start.rules start.machine in
          let strict = c.is_strict.ensures start.rules start.machine T tells.machine_stands in
          let masked = c.in-Err.ensures.err in
          let one = not_stopped_for script.strict T e (seen_event c.args.frame.event) seen.did
          (subst (λ b. oversize_for b (seen_event c.args.frame.event).verdict ≡ None) strict
          (sym c.oversize_for.ensures ∙ c.in-None.is)) in
          record {
            within = tells.within;
            reason = (
              one,
              inl (inr (
                masked.0,
                sym (ap (λ (x : EventValue). x.verdict) seen.did) ∙ masked.1,
                ap (λ rules. is_masked rules masked.0) ruled ∙ masked.2,
              )),
            );
            carried = tells.carried;
          };
      kept = λ start earlier ruled tells sure.
          record { within = sure.within; mid = sure.mid; said = sure.said; wrote = sure.wrote; carried = sure.carried };
    }

pub returns-in-Ok-tell-clause-told : goal.returns-in-Ok-tell-clause-told
returns-in-Ok-tell-clause-told g c = λ T e seen.
    let M = g.M.Machine in
    let d = dir_of c.args.frame.channel in
    let event = seen_event c.args.frame.event in
    let shown = c.shown-shown.ensures c.args.config.now.rules c.dir.result c.in-Ok.ensures.ok in
    let told = sym (told_by T e c.args.frame.channel event seen.channel seen.did) in
    let out = c.args.self.now.ruling.left_out in
    record {
      ok = λ start ruled tells.
          let rules = start.rules in
          let few = few_under rules T seen.few in
          let strict = c.is_strict.ensures rules start.machine T tells.machine_stands in
          let left = left_under _ _ _ _ _ _ shown ruled c.dir.ensures in
          let said = c.in-Ok-tell.ensures.ok rules start.machine T e
          (seen_under rules T e _ _ seen left
          (c.judged_message-message.ensures.judged (messages_under rules MESSAGE_LIMIT T) few tells.judged.judged.counted))
          tells.machine_stands in
          tells_next M g.W.Target start T e _ (left ∙ ap (under rules) told) _ _ _ _ tells
          (c.judged_message-message.ensures.next (messages_under rules MESSAGE_LIMIT T) few tells.judged.judged)
          (c.in-Ok.ensures.counted d (few_left_out rules T _ seen.few tells.judged.counted)
          ∙ ap (λ r. out + left_out r (told_message d event.verdict)) (sym ruled) ∙ ap (λ l. out + left_out rules l) told) said.0
          (not_stopped_for (M.script rules start.machine).strict T e event seen.did
          (subst (λ b. oversize_for b event.verdict ≡ None) strict (sym c.oversize_for.ensures ∙ c.in-None.is))) said.1;
      err = tt;
      kept = λ start earlier ruled tells sure.
          let rules = start.rules in
          let few = few_under rules T seen.few in
          let left = left_under _ _ _ _ _ _ shown ruled c.dir.ensures in
          let said = c.in-Ok-tell.ensures.ok rules start.machine T e
          (seen_under rules T e _ _ seen left
          (c.judged_message-message.ensures.judged (messages_under rules MESSAGE_LIMIT T) few tells.judged.judged.counted))
          tells.machine_stands in
          record {
            within = sure.within;
            mid = sure.mid;
            said = sure.said ++ (M.script rules start.machine).of_frame T e;
            wrote = sure.wrote;
            carried = said.1 sure.mid sure.said sure.carried;
          };
    }

pub returns-in-Err-tell-clause-told : goal.returns-in-Err-tell-clause-told
returns-in-Err-tell-clause-told g c = λ T e seen.
    let M = g.M.Machine in
    let d = dir_of c.args.frame.channel in
    let event = seen_event c.args.frame.event in
    let shown = c.shown-shown.ensures c.args.config.now.rules c.dir.result c.in-Ok.ensures.ok in
    record {
      ok = tt;
      err = λ start ruled tells.
          let rules = start.rules in
          let few = few_under rules T seen.few in
          let strict = c.is_strict.ensures rules start.machine T tells.machine_stands in
          let left = left_under _ _ _ _ _ _ shown ruled c.dir.ensures in
          let needs = c.in-Err-tell.ensures.needs rules start.machine T e
          (seen_under rules T e _ _ seen left
          (c.judged_message-message.ensures.judged (messages_under rules MESSAGE_LIMIT T) few tells.judged.judged.counted))
          tells.machine_stands in
          stops_at M g.W.Target start T e _ _ _ _ tells
          (not_stopped_for (M.script rules start.machine).strict T e event seen.did
          (subst (λ b. oversize_for b event.verdict ≡ None) strict (sym c.oversize_for.ensures ∙ c.in-None.is)))
          needs (c.in-Err-tell.ensures.err rules start.machine T tells.machine_stands);
      kept = λ start earlier ruled tells sure.
          let said = c.in-Err-tell.ensures.err start.rules start.machine T tells.machine_stands in
          record {
            within = sure.within;
            mid = sure.mid;
            said = sure.said ++ [];
            wrote = sure.wrote;
            carried = said sure.mid sure.said sure.carried;
          };
    }
