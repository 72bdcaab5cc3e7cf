-- One more message is put in among the messages of a meaning, or left out.
use Rattle.std.proofs.Common.{◌≡◌, List, [], ◌∷◌, ◌++◌, refl, sym, ◌∙◌, ap, append-nil, append_assoc}
use Rattle.direction.specs.Dir.{Message}
use Rattle.uds_exchange.specs.declared.step.Step.{Step}
use Rattle.uds_exchange.specs.declared.step.Step.TheVariants as step
use Rattle.uds_exchange.specs.Laws.{IsPutInBy, OneMoreIsPutIn}
use Rattle.uds_exchange.specs.Meaning.{meaning, flattened}
use Rattle.uds_exchange.specs.Judging.{step_after}
use Rattle.uds_exchange.specs.Order.{early, held}
use Rattle.uds_exchange.specs.proving.Steps.{held_after_step}
use Rattle.uds_exchange.specs.proving.Ordering.{due_for}
use Rattle.uds_exchange.proofs.EarlyOfMore.{early_then_held}
use Rattle.uds_exchange.proofs.HeldOfMore.{held-next}
use Rattle.uds_exchange.proofs.OrdererSteps.{early-due}

-- what is early, what is due and what is then held, by what becomes of the message
put_in_by : (became : Step) (front holds : List Message) (x : Message)
    → IsPutInBy became (front ++ holds) x ((front ++ due_for became holds x) ++ held_after_step became holds x)
put_in_by (step.Request service) front holds x = record {
  front = front ++ holds;
  rest = [];
  was = sym (append-nil (front ++ holds));
  is = append-nil (front ++ (holds ++ x ∷ [])) ∙ sym (append_assoc front holds (x ∷ []));
}
put_in_by step.Answer front holds x = record { front = front; rest = holds; was = refl; is = append-nil (front ++ x ∷ holds) }
put_in_by step.Removed front holds x = ap (λ l. l ++ holds) (append-nil front)
put_in_by step.Hold front holds x = record {
  front = front ++ holds;
  rest = [];
  was = sym (append-nil (front ++ holds));
  is = ap (λ l. l ++ (holds ++ x ∷ [])) (append-nil front) ∙ sym (append_assoc front holds (x ∷ []));
}
put_in_by step.Pass front holds x = record { front = front; rest = holds; was = refl; is = append_assoc front (x ∷ []) holds }

pub one_more_is_put_in : OneMoreIsPutIn
one_more_is_put_in M x =
    let after : (early M ++ due_for (step_after M x) (held M) x) ++ held_after_step (step_after M x) (held M) x ≡ flattened (meaning (M ++ x ∷ [])) =
    (λ i. sym (early-due M x) i ++ sym (held-next M x) i) ∙ early_then_held (M ++ x ∷ []) in
    rw (← early_then_held M, ← after) (put_in_by (step_after M x) (early M) (held M) x)
