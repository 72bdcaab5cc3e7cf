-- The row of a message and what closes before it, by what becomes of the message.
use Rattle.std.proofs.Common.{◌≡◌, ◌⊎◌, inl, inr, Bool, Option, Some, ℕ, ap, sym, subst, ◌∙◌, true, false, [], ◌∷◌, ◌++◌}
use Rattle.std.specs.Prelude.{if◌then◌else◌}
use Rattle.uds_exchange.specs.Judging.{number_after, sent, step_after}
use Rattle.uds_exchange.specs.proving.ItemNumbers.{open_number_if_any, open_number_after_step}
use Rattle.uds_exchange.specs.declared.step.Step.{Step}
use Rattle.uds_exchange.specs.declared.step.Step.TheVariants as step
use Rattle.uds_exchange.proofs.Promises.{open_number_goes_on}
use Rattle.trace_report.specs.Events.{is_exchange_step, is_request_step}
use Rattle.trace_report.proofs.Meeting.{pending_by_unit, silence_answered, silence_asked, silence_pending, silence_still}
use Rattle.trace_report.specs.proving.Following.{IsSilence}
use Rattle.trace_report.proofs.follower.Follower.take_message.Goals as goal

pub returns-in-Request-clause-next : goal.returns-in-Request-clause-next
returns-in-Request-clause-next c = λ M to_all judged item alone waits silence.
    let x = sent c.args.message in
    let found = sym judged ∙ c.in-Request.is in
    let asks : is_request_step (step_after M x) ≡ true = ap is_request_step found in
    let is_one : is_exchange_step (step_after M x) ≡ true = ap is_exchange_step found in
    record {
      waits = ap (λ n. Some n) item ∙ sym (open_number_goes_on M x ∙ ap (λ (s : Step). open_number_after_step s (number_after M x) (open_number_if_any M)) found);
      silence = subst (λ b. IsSilence (M ++ x ∷ []) b c.silence_of-self.result) (ap (λ (b : Bool). if b then c.args.extent.is_functional else to_all) (sym is_one))
          (silence_asked M x c.args.extent.is_functional c.silence_of-self.result asks c.silence_of-self.ensures);
      asked_then = ap (λ (b : Bool). if b then c.args.here.micros else c.args.self.now.asked) (sym asks);
    }

pub returns-in-Answer-clause-next : goal.returns-in-Answer-clause-next
returns-in-Answer-clause-next c = λ M to_all judged item alone waits silence.
    let x = sent c.args.message in
    let found = sym judged ∙ c.in-Answer.is in
    let asks : is_request_step (step_after M x) ≡ false = ap is_request_step found in
    record {
      waits = sym (open_number_goes_on M x ∙ ap (λ (s : Step). open_number_after_step s (number_after M x) (open_number_if_any M)) found);
      silence = silence_answered M x (if is_exchange_step (step_after M x) then c.args.extent.is_functional else to_all) c.args.self.now.silence found;
      asked_then = ap (λ (b : Bool). if b then c.args.here.micros else c.args.self.now.asked) (sym asks);
    }

pub returns-in-Removed-clause-next : goal.returns-in-Removed-clause-next
returns-in-Removed-clause-next c = λ M to_all judged item alone waits silence.
    let x = sent c.args.message in
    let found = sym judged ∙ c.in-Removed.is in
    let asks : is_request_step (step_after M x) ≡ false = ap is_request_step found in
    let to_one : false ≡ (if is_exchange_step (step_after M x) then c.args.extent.is_functional else to_all) =
    sym (alone (pending_by_unit M x found)) ∙ ap (λ (b : Bool). if b then c.args.extent.is_functional else to_all) (sym (ap is_exchange_step found)) in
    record {
      waits = waits ∙ sym (open_number_goes_on M x ∙ ap (λ (s : Step). open_number_after_step s (number_after M x) (open_number_if_any M)) found);
      silence = subst (λ b. IsSilence (M ++ x ∷ []) b c.silence_behind_pending-self.result) to_one
          (subst (λ s. IsSilence (M ++ x ∷ []) false s) (sym c.silence_behind_pending-self.ensures) (silence_pending M x to_all c.args.self.now.silence asks silence));
      asked_then = ap (λ (b : Bool). if b then c.args.here.micros else c.args.self.now.asked) (sym asks);
    }

-- a message of no exchange
still : (number : ℕ) (waits : Option ℕ) (s : Step) → (s ≡ step.Hold) ⊎ (s ≡ step.Pass)
    → (open_number_after_step s number waits ≡ waits) × (is_request_step s ≡ false) × (is_exchange_step s ≡ false)
still number waits s (inl held) = (ap (λ t. open_number_after_step t number waits) held, ap is_request_step held, ap is_exchange_step held)
still number waits s (inr passed) = (ap (λ t. open_number_after_step t number waits) passed, ap is_request_step passed, ap is_exchange_step passed)

pub returns-in-Hold-clause-next : goal.returns-in-Hold-clause-next
returns-in-Hold-clause-next c = λ M to_all judged item alone waits silence.
    let x = sent c.args.message in
    let quiet = still (number_after M x) (open_number_if_any M) c.args.message.step c.in-Hold.is in
    let asks : is_request_step (step_after M x) ≡ false = ap is_request_step (sym judged) ∙ quiet.1 in
    let is_none : is_exchange_step (step_after M x) ≡ false = ap is_exchange_step (sym judged) ∙ quiet.2 in
    record {
      waits = waits ∙ sym (open_number_goes_on M x ∙ ap (λ (s : Step). open_number_after_step s (number_after M x) (open_number_if_any M)) (sym judged) ∙ quiet.0);
      silence = subst (λ b. IsSilence (M ++ x ∷ []) b c.args.self.now.silence) (ap (λ (b : Bool). if b then c.args.extent.is_functional else to_all) (sym is_none))
          (silence_still M x to_all c.args.self.now.silence asks silence);
      asked_then = ap (λ (b : Bool). if b then c.args.here.micros else c.args.self.now.asked) (sym asks);
    }
