-- An orderer does with one more message what the longer list means.
use Rattle.std.proofs.Common.{◌≡◌, ℕ, false, List, [], ◌∷◌, ◌++◌, Option, Some, None, refl, sym, ◌∙◌, ap, subst, inl, inr}
use Rattle.std.proofs.lemmas.Bool.{cases_Bool, false≢true}
use Rattle.direction.specs.Dir.{Message}
use Rattle.uds_exchange.specs.Meaning.{ItemValue, is_tester_request, is_answer_to, is_pending_reply_to, meaning, flattened}
use Rattle.uds_exchange.specs.Order.{held_in, held, early}
use Rattle.uds_exchange.specs.Orderer.{JudgedOrdererValue, judged_orderer_after, IsDue, PutsDue, StopsDue}
use Rattle.uds_exchange.specs.proving.OpenExchange.{open_exchange_in, open_sid_in}
use Rattle.uds_exchange.specs.OneMessage.{step_of}
use Rattle.uds_exchange.specs.proving.Ordering.{due_for, orderer_after_step, Stops}
use Rattle.uds_exchange.specs.Judging.{step_after}
use Rattle.uds_exchange.specs.declared.step.Step.{Step}
use Rattle.uds_exchange.specs.MessageSink.{AfterOk, AfterErr, Puts}
use Rattle.uds_exchange.specs.declared.order_fault.OrderFault.{OrderFault}
use Rattle.uds_exchange.specs.declared.order_fault.OrderFault.TheVariants as fault
use Rattle.uds_exchange.proofs.OpenExchange.{sid_of}
use Rattle.uds_exchange.proofs.EarlyOfMore.{early_then_held, due_by, due_in, early-append}
use Rattle.uds_exchange.proofs.PuttingMessages.{puts_join}
use Rattle.uds_exchange.proofs.HeldOfMore.{open-sid-is, held-next}

due-by-same : (w : Option (ℕ × List ℕ)) (xs : List Message) (x : Message) → is_tester_request x ≡ false
    → due_for (step_of (sid_of w) x) xs x ≡ due_by w xs x
due-by-same None xs x r = rw r refl
due-by-same (Some w) xs x r =
    elim (cases_Bool (is_answer_to w.1 x)) [
      | inl e ↦ rw (r, e) refl
      | inr e ↦ elim (cases_Bool (is_pending_reply_to w.1 x)) [ inl q ↦ rw (r, e, q) refl | inr q ↦ rw (r, e, q) refl ]
    ]

due-same : (its : List ItemValue) (x : Message) → due_for (step_of (open_sid_in its) x) (held_in its) x ≡ due_in its x
due-same its x =
    elim (cases_Bool (is_tester_request x)) [ inl e ↦ rw e refl | inr e ↦ (due-by-same (open_exchange_in its) (held_in its) x e ∙ rw e refl) ]

-- what has its place with one more message
pub early-due : (M : List Message) (x : Message) → early (M ++ x ∷ []) ≡ early M ++ due_for (step_after M x) (held M) x
early-due M x =
    early-append M x
    ∙ ap (λ l. early M ++ l) (sym (due-same (meaning M) x) ∙ ap (λ o. due_for (step_of o x) (held M) x) (sym (open-sid-is M)))

due-from : (M : List Message) (x : Message) (s : Step) (o : JudgedOrdererValue) → o ≡ judged_orderer_after M → s ≡ step_after M x
    → IsDue M x (due_for s o.holds x)
due-from M x s o is step_is =
    early-due M x ∙ (λ i. early M ++ due_for (sym step_is i) (sym (ap (λ (q : JudgedOrdererValue). q.holds) is) i) x)

orderer-grows : (M : List Message) (x : Message) → orderer_after_step (step_after M x) (judged_orderer_after M) x ≡ judged_orderer_after (M ++ x ∷ [])
orderer-grows M x = let holds = sym (held-next M x) in (λ i. record { has_failed = false; holds = holds i })

-- an orderer is where it stands after the longer list
pub ordered-next : (M : List Message) (x : Message) (s : Step) (o : JudgedOrdererValue) → o ≡ judged_orderer_after M → s ≡ step_after M x
    → orderer_after_step s o x ≡ judged_orderer_after (M ++ x ∷ [])
ordered-next M x s o is step_is = (λ i. orderer_after_step (step_is i) (is i) x) ∙ orderer-grows M x

module _ {S E : Type 0} (after_ok : AfterOk S) (after_err : AfterErr S E) where
  -- what one more message makes due is what the orderer puts
  pub puts-due : (M : List Message) (x : Message) (by : Step) (o : JudgedOrdererValue) (s t : S) → o ≡ judged_orderer_after M → by ≡ step_after M x
      → Puts after_ok s (due_for by o.holds x) t → PutsDue after_ok M x s t
  puts-due M x by o s t is step_is h = (due_for by o.holds x, due-from M x by o is step_is, h)

  -- what is early, and then what becomes due, is what is early with one more message
  pub puts_go_on : (s t u : S) (M : List Message) (x : Message) → Puts after_ok s (early M) t → PutsDue after_ok M x t u
      → Puts after_ok s (early (M ++ x ∷ [])) u
  puts_go_on s t u M x h d =
      subst (λ (l : List Message). Puts after_ok s l u) (sym d.1) (puts_join after_ok after_err s t u (early M) d.0 h d.2)

  -- what is early and then what is held are all messages of the meaning
  pub puts_end : (s t u : S) (M : List Message) → Puts after_ok s (early M) t → Puts after_ok t (held M) u
      → Puts after_ok s (flattened (meaning M)) u
  puts_end s t u M h d =
      subst (λ (l : List Message). Puts after_ok s l u) (early_then_held M) (puts_join after_ok after_err s t u (early M) (held M) h d)

  pub stops-due : (M : List Message) (x : Message) (by : Step) (o p : JudgedOrdererValue) (s t : S) (f : OrderFault E)
      → o ≡ judged_orderer_after M → by ≡ step_after M x
      → Stops after_ok after_err by x o s p t f → StopsDue after_ok after_err M x s t f
  stops-due M x by o p s t fault.Memory is step_is h = h.2
  stops-due M x by o p s t (fault.Sink e) is step_is h = (due_for by o.holds x, due-from M x by o is step_is, h.2)
  stops-due M x by o p s t fault.Failed is step_is h = absurd (false≢true (ap (λ q. q.has_failed) (sym is) ∙ h.0))
