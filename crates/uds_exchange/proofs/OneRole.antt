-- Each message has one role, by the exchange that waits before it.
use Rattle.std.proofs.Common.{◌≡◌, ℕ, false, List, Option, Some, None, refl, sym, ◌∙◌, ap, cond, inl, inr}
use Rattle.std.proofs.lemmas.Bool.{cases_Bool, false≢true}
use Rattle.std.proofs.lemmas.Option.{none-some}
use Rattle.direction.specs.Dir.{Message}
use Rattle.uds_exchange.specs.Meaning.{is_tester_request, is_answer_to, is_pending_reply_to, meaning}
use Rattle.uds_exchange.specs.Roles.{MessageRole, IsOpenBehind, as_request, as_answer, as_removed, as_stray, AnswersOpen, IsPendingForOpen, HasRole}
use Rattle.uds_exchange.specs.proving.OpenExchange.{open_exchange_in}
use Rattle.uds_exchange.proofs.OpenRequests.{opens, waits-open, same-open}
use Rattle.uds_exchange.proofs.Replies.{pending-not-answer, answer-not-request, pending-not-request}

-- the role of a message, by the exchange that waits before it
abbrev pub role_by : Option (ℕ × List ℕ) → Message → MessageRole
role_by None x = as_stray
role_by (Some w) x = cond (is_answer_to w.1 x) as_answer (cond (is_pending_reply_to w.1 x) as_removed as_stray)

-- the role of a message behind these messages
abbrev pub role_behind : List Message → Message → MessageRole
role_behind past x = cond (is_tester_request x) as_request (role_by (open_exchange_in (meaning past)) x)

module _ (past : List Message) (x : Message) where
  no-answer : (w : ℕ × List ℕ) → open_exchange_in (meaning past) ≡ Some w → is_answer_to w.1 x ≡ false → ¬ AnswersOpen past x
  no-answer w h e a = false≢true (sym e ∙ ap (λ r. is_answer_to r x) (sym (same-open past a.0 w a.1 h)) ∙ a.2)

  no-pending : (w : ℕ × List ℕ) → open_exchange_in (meaning past) ≡ Some w → is_pending_reply_to w.1 x ≡ false → ¬ IsPendingForOpen past x
  no-pending w h e a = false≢true (sym e ∙ ap (λ r. is_pending_reply_to r x) (sym (same-open past a.0 w a.1 h)) ∙ a.2)

  none-open : (r : List ℕ) → open_exchange_in (meaning past) ≡ None → ¬ IsOpenBehind past r
  none-open r h o = none-some _ (sym h ∙ (waits-open past r o).1)

  has-role-by : is_tester_request x ≡ false → (o : Option (ℕ × List ℕ)) → open_exchange_in (meaning past) ≡ o → HasRole past x (role_by o x)
  has-role-by r None h = (r, λ a. none-open a.0 h a.1, λ a. none-open a.0 h a.1)
  has-role-by r (Some w) h =
      elim (cases_Bool (is_answer_to w.1 x)) [
        | inl e ↦ rw e (w.1, opens past w h, e)
        | inr e ↦ elim (cases_Bool (is_pending_reply_to w.1 x)) [
          | inl q ↦ rw (e, q) (w.1, opens past w h, q)
          | inr q ↦ rw (e, q) (r, no-answer w h e, no-pending w h q)
        ]
      ]

  -- a message has that role
  pub has-role : HasRole past x (role_behind past x)
  has-role =
      elim (cases_Bool (is_tester_request x)) [
        | inl e ↦ rw e e
        | inr e ↦ rw e (has-role-by e (open_exchange_in (meaning past)) refl)
      ]

  stray-by : (o : Option (ℕ × List ℕ)) → open_exchange_in (meaning past) ≡ o → ¬ AnswersOpen past x → ¬ IsPendingForOpen past x
      → as_stray ≡ role_by o x
  stray-by None h a q = refl
  stray-by (Some w) h a q =
      elim (cases_Bool (is_answer_to w.1 x)) [
        | inl e ↦ absurd (a (w.1, opens past w h, e))
        | inr e ↦ elim (cases_Bool (is_pending_reply_to w.1 x)) [
          | inl p ↦ absurd (q (w.1, opens past w h, p))
          | inr p ↦ rw (e, p) refl
        ]
      ]

  -- and no other
  pub only-role : (role : MessageRole) → HasRole past x role → role ≡ role_behind past x
  only-role as_request h = rw h refl
  only-role as_answer h = let w = waits-open past h.0 h.1 in rw (answer-not-request h.0 x h.2, w.1, h.2) refl
  only-role as_removed h =
      let w = waits-open past h.0 h.1 in
      rw (pending-not-request h.0 x h.2, w.1, pending-not-answer h.0 x h.2, h.2) refl
  only-role as_stray h = rw h.0 (stray-by (open_exchange_in (meaning past)) refl h.1 h.2)
