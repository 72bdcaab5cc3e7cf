-- What one more message does to the first byte of the open request, and to what is held.
use Rattle.std.proofs.Common.{◌≡◌, ℕ, false, List, [], ◌∷◌, ◌++◌, Option, Some, None, refl, sym, ◌∙◌, ap, inl, inr, option_map}
use Rattle.std.proofs.lemmas.Bool.{cases_Bool}
use Rattle.direction.specs.Dir.{Message}
use Rattle.uds_message.specs.Message.{sid}
use Rattle.uds_exchange.specs.Meaning.{ItemValue, is_tester_request, is_answer_to, is_pending_reply_to, meaning}
use Rattle.uds_exchange.specs.Order.{held_in, held, open_request}
use Rattle.uds_exchange.specs.Orderer.{IsHeld}
use Rattle.uds_exchange.specs.proving.OpenExchange.{open_exchange_in, open_sid_in}
use Rattle.uds_exchange.specs.proving.Pairing.{items_with_other, items_with}
use Rattle.uds_exchange.specs.OneMessage.{step_of}
use Rattle.uds_exchange.specs.proving.Steps.{open_sid_after_step, held_after_step}
use Rattle.uds_exchange.specs.Judging.{step_after}
use Rattle.uds_exchange.specs.declared.step.Step.{Step}
use Rattle.uds_exchange.specs.declared.step.Step.TheVariants as step
use Rattle.uds_exchange.proofs.OpenExchange.{sid_of, open_exchange-stray, open_exchange-request, open_exchange-answered}
use Rattle.uds_exchange.proofs.MeaningOfMore.{meaning_goes_on}
use Rattle.uds_exchange.proofs.EarlyOfMore.{early-request, early-stray, early-kept, early-answered, none-held}
use Rattle.uds_exchange.proofs.OpenRequests.{open-request-waits}

sid-of-request : (w : Option (ℕ × List ℕ)) → option_map sid (option_map (λ w. w.1) w) ≡ sid_of w
sid-of-request None = refl
sid-of-request (Some w) = refl

-- the first byte of the open request is that of the exchange which waits
pub open-sid-is : (M : List Message) → option_map sid (open_request M) ≡ open_sid_in (meaning M)
open-sid-is M = ap (option_map sid) (open-request-waits (meaning M)) ∙ sid-of-request (open_exchange_in (meaning M))

-- so what becomes of a message is told by the items
pub step_by_items : (M : List Message) (x : Message) → step_of (open_sid_in (meaning M)) x ≡ step_after M x
step_by_items M x = ap (λ o. step_of o x) (sym (open-sid-is M))

next-by : (its : List ItemValue) (x : Message) (w : Option (ℕ × List ℕ)) → is_tester_request x ≡ false → open_exchange_in its ≡ w
    → (open_sid_in (items_with_other w its x) ≡ open_sid_after_step (step_of (sid_of w) x) (open_sid_in its))
    × (held_in (items_with_other w its x) ≡ held_after_step (step_of (sid_of w) x) (held_in its) x)
next-by its x None r h = rw (r, open_exchange-stray its x.0 x.1, h, (early-stray its x.0 x.1 h).1, none-held its h) (refl, refl)
next-by its x (Some w) r h =
    elim (cases_Bool (is_answer_to w.1 x)) [
      | inl e ↦ rw (r, e, open_exchange-answered its w x.1 h, (early-answered its w x.1 h).1) (refl, refl)
      | inr e ↦ elim (cases_Bool (is_pending_reply_to w.1 x)) [
        | inl q ↦ rw (r, e, q) (refl, refl)
        | inr q ↦ rw (r, e, q, open_exchange-stray its x.0 x.1, (early-kept its w x.0 x.1 h).1) (refl, refl)
      ]
    ]

next-same : (its : List ItemValue) (x : Message)
    → (open_sid_in (items_with its x) ≡ open_sid_after_step (step_of (open_sid_in its) x) (open_sid_in its))
    × (held_in (items_with its x) ≡ held_after_step (step_of (open_sid_in its) x) (held_in its) x)
next-same its x =
    elim (cases_Bool (is_tester_request x)) [
      | inl e ↦ rw (e, open_exchange-request its x.1, (early-request its x.1).1) (refl, refl)
      | inr e ↦
          (let other : items_with its x ≡ items_with_other (open_exchange_in its) its x = rw e refl in
          let by = next-by its x (open_exchange_in its) e refl in
          (ap open_sid_in other ∙ by.0, ap held_in other ∙ by.1))
    ]

-- the first byte of the open request, and what is held, after the longer list
pub open-sid-next : (M : List Message) (x : Message)
    → option_map sid (open_request (M ++ x ∷ [])) ≡ open_sid_after_step (step_after M x) (option_map sid (open_request M))
open-sid-next M x =
    open-sid-is (M ++ x ∷ [])
    ∙ ap open_sid_in (meaning_goes_on M x)
    ∙ (next-same (meaning M) x).0
    ∙ ap (λ o. open_sid_after_step (step_of o x) o) (sym (open-sid-is M))

-- what is held with one more message, by what becomes of it
pub held-next : (M : List Message) (x : Message) → held (M ++ x ∷ []) ≡ held_after_step (step_after M x) (held M) x
held-next M x =
    ap held_in (meaning_goes_on M x)
    ∙ (next-same (meaning M) x).1
    ∙ ap (λ o. held_after_step (step_of o x) (held M) x) (sym (open-sid-is M))

-- a message that a step holds is held after the longer list
pub held-with : (M : List Message) (x : Message) (s : Step) → s ≡ step_after M x → s ≡ step.Hold → IsHeld M x
held-with M x s step_is holds = held-next M x ∙ ap (λ r. held_after_step r (held M) x) (sym step_is ∙ holds)
