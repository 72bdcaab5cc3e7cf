-- What becomes of a message tells its role.
use Rattle.std.proofs.Common.{◌≡◌, ℕ, List, Option, Some, None, refl, ◌∙◌, ap, cond, subst, inl, inr}
use Rattle.std.proofs.lemmas.Bool.{cases_Bool}
use Rattle.direction.specs.Dir.{Message}
use Rattle.uds_exchange.specs.Judging.{step_after}
use Rattle.uds_exchange.specs.Laws.{role_of_step, StepTellsTheRole}
use Rattle.uds_exchange.specs.Meaning.{is_tester_request, is_answer_to, is_pending_reply_to, meaning}
use Rattle.uds_exchange.specs.OneMessage.{step_if_open, step_of}
use Rattle.uds_exchange.specs.Roles.{HasRole, as_request}
use Rattle.uds_exchange.specs.proving.OpenExchange.{open_exchange_in}
use Rattle.uds_exchange.proofs.HeldOfMore.{step_by_items}
use Rattle.uds_exchange.proofs.OpenExchange.{sid_of}
use Rattle.uds_exchange.proofs.OneRole.{role_by, role_behind, has-role}

role-if-open : (w : Option (ℕ × List ℕ)) (x : Message) → role_by w x ≡ role_of_step (step_if_open (sid_of w) x)
role-if-open None x = refl
role-if-open (Some w) x =
    elim (cases_Bool (is_answer_to w.1 x)) [
      | inl e ↦ rw e refl
      | inr e ↦ elim (cases_Bool (is_pending_reply_to w.1 x)) [ inl q ↦ rw (e, q) refl | inr q ↦ rw (e, q) refl ]
    ]

-- the role by the exchange that waits is that of the step by its request's first byte
role-of : (w : Option (ℕ × List ℕ)) (x : Message)
    → cond (is_tester_request x) as_request (role_by w x) ≡ role_of_step (step_of (sid_of w) x)
role-of w x = elim (cases_Bool (is_tester_request x)) [ inl e ↦ rw e refl | inr e ↦ rw e (role-if-open w x) ]

role-after : (M : List Message) (x : Message) → role_behind M x ≡ role_of_step (step_after M x)
role-after M x = role-of (open_exchange_in (meaning M)) x ∙ ap role_of_step (step_by_items M x)

pub step_tells_the_role : StepTellsTheRole
step_tells_the_role M x = subst (HasRole M x) (role-after M x) (has-role M x)
