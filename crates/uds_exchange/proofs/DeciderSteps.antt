-- A decider does with one more message what the longer list means.
use Rattle.std.proofs.Common.{◌≡◌, ℕ, true, option_map, List, [], ◌∷◌, ◌++◌, Option, Some, None, refl, sym, ◌∙◌, inl, inr, not, ◌&&◌}
use Rattle.std.proofs.lemmas.Bool.{cases_Bool}
use Rattle.direction.specs.Dir.{Message}
use Rattle.uds_message.specs.Message.{sid, is_final_for, is_pending_for}
use Rattle.uds_exchange.specs.Decided.{decided}
use Rattle.uds_exchange.specs.Decider.{DeciderValue, decider_after, AreDecidedBy, IsKept}
use Rattle.uds_exchange.specs.Laws.{open_with}
use Rattle.uds_exchange.specs.Meaning.{is_tester_request, is_answer_to, is_pending_reply_to, is_from_tester}
use Rattle.uds_exchange.specs.Order.{open_request}
use Rattle.uds_exchange.specs.proving.Deciding.{decided_for, request_after_step, decider_after_step, decider_with, Keeps}
use Rattle.uds_exchange.specs.OneMessage.{step_of, step_if_open}
use Rattle.uds_exchange.specs.Judging.{step_after}
use Rattle.uds_exchange.specs.declared.step.Step.{Step}
use Rattle.uds_exchange.specs.declared.step.Step.TheVariants as step
use Rattle.uds_exchange.proofs.HeldOfMore.{held-next, held-with}
use Rattle.uds_exchange.proofs.OpenRequestOfMore.{open_request_goes_on}
use Rattle.uds_exchange.proofs.DecidedOfMore.{decided-by}

request-kept : (o : Option (List ℕ)) (x : Message) → request_after_step (step_of (option_map sid o) x) o x ≡ open_with o x
request-kept None x = elim (cases_Bool (is_tester_request x)) [ inl e ↦ rw e refl | inr e ↦ rw e refl ]
request-kept (Some r) x =
    elim (cases_Bool (is_tester_request x)) [
      | inl e ↦ rw e refl
      | inr e ↦ elim (cases_Bool (is_answer_to r x)) [
        | inl a ↦ rw (e, a) refl
        | inr a ↦ elim (cases_Bool (is_pending_reply_to r x)) [ inl q ↦ rw (e, a, q) refl | inr q ↦ rw (e, a, q) refl ]
      ]
    ]

-- it is where it stands after the longer list
pub keeps-next : (M : List Message) (x : Message) → decider_with (decider_after M) x ≡ decider_after (M ++ x ∷ [])
keeps-next M x =
    let request = request-kept (open_request M) x ∙ sym (open_request_goes_on M x) in
    let holds = sym (held-next M x) in
    (λ i. record { request = request i; holds = holds i })

-- by the step that was found
pub keeps-found : (M : List Message) (x : Message) (s : Step) (d : DeciderValue) → d ≡ decider_after M → s ≡ step_after M x
    → decider_after_step s d x ≡ decider_after (M ++ x ∷ [])
keeps-found M x s d is step_is = (λ i. decider_after_step (step_is i) (is i) x) ∙ keeps-next M x

pub decided-found : (M : List Message) (x : Message) (s : Step) (d : DeciderValue) → d ≡ decider_after M → s ≡ step_after M x
    → AreDecidedBy M x (decided_for s d x)
decided-found M x s d is step_is = decided-by M x (decider_after M) refl ∙ (λ i. decided M ++ decided_for (sym step_is i) (sym is i) x)

-- a message that is no request does not become one
pub not-request : (s : ℕ) (o : Option ℕ) (x : Message) → step.Request s ≡ step_if_open o x → ⊥
not-request s None x h = cc
not-request s (Some w) x h =
    elim (cases_Bool (not (is_from_tester x.0) && is_final_for w x.1)) [
      | inl e ↦ (let no : step.Request s ≡ step.Answer = rw e at h in cc)
      | inr e ↦ elim (cases_Bool (not (is_from_tester x.0) && is_pending_for w x.1)) [
        | inl q ↦ (let no : step.Request s ≡ step.Removed = rw (e, q) at h in cc)
        | inr q ↦ (let no : step.Request s ≡ step.Hold = rw (e, q) at h in cc)
      ]
    ]

-- a step that begins an exchange is one of a request
asks : (M : List Message) (x : Message) (service : ℕ) → step_after M x ≡ step.Request service → is_tester_request x ≡ true
asks M x service is =
    elim (cases_Bool (is_tester_request x)) [
      | inl e ↦ e
      | inr e ↦ absurd (not-request service (option_map sid (open_request M)) x (sym is ∙ rw e refl))
    ]

-- where memory is refused, the message is one that is kept
pub kept-with : (M : List Message) (x : Message) (s : Step) → s ≡ step_after M x → Keeps s → IsKept M x
kept-with M x s step_is (inl begins) = inl (asks M x begins.0 (sym step_is ∙ begins.1))
kept-with M x s step_is (inr holds) = inr (held-with M x s step_is holds)
