-- The canonical log said one more frame at a time.
use Rattle.std.proofs.Common.{◌≡◌, ℕ, List, [], ◌∷◌, ◌++◌, length, drop, ap, sym, subst, ◌∙◌, append-nil}
use Rattle.std.proofs.Math.Seq.{drop-append_seam}
use Rattle.direction.specs.Dir.{Message}
use Rattle.isotp_receive.specs.declared.TheConstants.{MESSAGE_LIMIT}
use Rattle.isotp_receive.specs.Trace.{Entry}
use Rattle.isotp_segment.specs.Timed.{all_frames}
use Rattle.uds_exchange.specs.Order.{early}
use Rattle.uds_exchange.specs.Orderer.{JudgedOrdererValue, judged_orderer_after}
use Rattle.trace_canon.specs.proving.CanonicalScript.{progress_behind, lines_due, StandsCanonical}
use Rattle.trace_canon.specs.proving.Saying.{SaysDue}
use Rattle.uds_rules.specs.Rule.{RuleValue}
use Rattle.trace_log.specs.Messages.{messages_under}
use Rattle.trace_log.specs.Settings.{Settings}
use Rattle.trace_canon.specs.proving.Writing.{ProgressValue, start_of, text_from, progress_after}
use Rattle.trace_canon.proofs.CanonicalWriting.{text_none, progress_append}
use Rattle.trace_log.proofs.Promises.{all_frames-append}

-- a message: what is due with it was said
pub says_next : {S : Type 0} (says : S → List ℕ → S → Type 0) (rules : List RuleValue) (settings config : Settings)
    (T : List Entry) (e : Entry) (message : Message)
    (orderer orderer_now : JudgedOrdererValue) (progress progress_now : ProgressValue) (out out_now : S)
    → messages_under rules MESSAGE_LIMIT (T ++ e ∷ []) ≡ messages_under rules MESSAGE_LIMIT T ++ message ∷ []
    → StandsCanonical rules settings T orderer config progress
    → orderer_now ≡ judged_orderer_after (messages_under rules MESSAGE_LIMIT T ++ message ∷ [])
    → SaysDue says config (messages_under rules MESSAGE_LIMIT T) message progress out progress_now out_now
    → StandsCanonical rules settings (T ++ e ∷ []) orderer_now config progress_now
    × says out (lines_due settings (messages_under rules MESSAGE_LIMIT T) (messages_under rules MESSAGE_LIMIT (T ++ e ∷ []))) out_now
says_next says rules settings config T e message orderer orderer_now progress progress_now out out_now next stood ordered (due, is_due, at, said) =
    let M = messages_under rules MESSAGE_LIMIT T in
    let now = messages_under rules MESSAGE_LIMIT (T ++ e ∷ []) in
    let longer : early now ≡ early M ++ due = ap early next ∙ is_due in
    let left : drop (length (early M)) (early now) ≡ due = ap (drop (length (early M))) longer ∙ drop-append_seam (early M) due in
    let same = stood.same in
    let stood_at = stood.at in (
      record {
        ordered = ordered ∙ ap judged_orderer_after (sym next);
        same = same;
        at =
            at ∙ ap (λ c. progress_after c progress (all_frames MESSAGE_LIMIT due)) same
            ∙ ap (λ p. progress_after settings p (all_frames MESSAGE_LIMIT due)) stood_at
            ∙ sym (progress_append settings (start_of settings.max_bytes) (all_frames MESSAGE_LIMIT (early M)) (all_frames MESSAGE_LIMIT due))
            ∙ ap (progress_after settings (start_of settings.max_bytes))
            (sym (all_frames-append MESSAGE_LIMIT (early M) due)) ∙ ap (progress_behind settings) (sym longer);
      },
      subst (λ text. says out text out_now)
          (ap (λ c. text_from c progress (all_frames MESSAGE_LIMIT due)) same ∙ ap (λ p. text_from settings p (all_frames MESSAGE_LIMIT due)) stood_at
          ∙ ap (λ x. text_from settings (progress_behind settings (early M)) (all_frames MESSAGE_LIMIT x)) (sym left)) said,
    )

-- no message: nothing is
pub says_nothing_more : {S : Type 0} (says : S → List ℕ → S → Type 0) (nothing : (s : S) → says s [] s)
    (rules : List RuleValue) (settings config : Settings) (T : List Entry) (e : Entry)
    (orderer : JudgedOrdererValue) (progress : ProgressValue) (out : S)
    → messages_under rules MESSAGE_LIMIT (T ++ e ∷ []) ≡ messages_under rules MESSAGE_LIMIT T
    → StandsCanonical rules settings T orderer config progress
    → StandsCanonical rules settings (T ++ e ∷ []) orderer config progress
    × says out (lines_due settings (messages_under rules MESSAGE_LIMIT T) (messages_under rules MESSAGE_LIMIT (T ++ e ∷ []))) out
says_nothing_more says nothing rules settings config T e orderer progress out next stood =
    let M = messages_under rules MESSAGE_LIMIT T in
    let same : messages_under rules MESSAGE_LIMIT (T ++ e ∷ []) ≡ M = next in
    let none : drop (length (early M)) (early (messages_under rules MESSAGE_LIMIT (T ++ e ∷ []))) ≡ [] =
    ap (λ x. drop (length (early M)) (early x)) same ∙ ap (drop (length (early M))) (sym (append-nil (early M))) ∙ drop-append_seam (early M) [] in (
      record {
        ordered = stood.ordered ∙ ap judged_orderer_after (sym same);
        same = stood.same;
        at = stood.at ∙ ap (λ x. progress_behind settings (early x)) (sym same);
      },
      subst (λ text. says out text out)
          (sym (ap (λ x. text_from settings (progress_behind settings (early M)) (all_frames MESSAGE_LIMIT x)) none
          ∙ text_none settings (progress_behind settings (early M)))) (nothing out),
    )
