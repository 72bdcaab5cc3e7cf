-- A pairing does with one more message what the longer list means, and keeps the place of the open exchange.
use Rattle.std.proofs.Common.{◌≡◌, ◌≢◌, ℕ, ◌<◌, List, [], ◌∷◌, ◌++◌, length, Option, Some, None, refl, sym, ◌∙◌, ap, arith, inl, inr, option_map}
use Rattle.std.specs.Prelude.{slice_get, slice_set}
use Rattle.std.proofs.lemmas.Option.{slice_get_within, same_Some, none-some}
use Rattle.std.proofs.lemmas.Bool.{cases_Bool}
use Rattle.direction.specs.Dir.{Message}
use Rattle.uds_exchange.specs.declared.step.Step.TheVariants as step
use Rattle.uds_exchange.specs.Meaning.{ItemValue, exchange, stray_of, is_tester_request, is_answer_to, is_pending_reply_to, meaning}
use Rattle.uds_exchange.specs.proving.OpenExchange.{open_exchange_in, open_sid_in}
use Rattle.uds_exchange.specs.proving.Pairing.{IsOpenPlace, items_after_step, items_with_other, items_with}
use Rattle.uds_exchange.specs.OneMessage.{step_if_open, step_of}
use Rattle.uds_exchange.specs.Judging.{step_after}
use Rattle.uds_exchange.specs.declared.step.Step.{Step}
use Rattle.uds_exchange.proofs.OpenExchange.{sid_of, open_exchange-stray, open_exchange-request, open_exchange-at, open_exchange-answered}
use Rattle.uds_exchange.proofs.MeaningOfMore.{meaning_goes_on}
use Rattle.uds_exchange.proofs.HeldOfMore.{step_by_items}

join_by-step : (its : List ItemValue) (w : Option (ℕ × List ℕ)) (x : Message)
    → items_with_other w its x ≡ items_after_step (step_if_open (sid_of w) x) w its x
join_by-step its None x = refl
join_by-step its (Some w) x =
    elim (cases_Bool (is_answer_to w.1 x)) [
      | inl e ↦ rw e refl
      | inr e ↦ elim (cases_Bool (is_pending_reply_to w.1 x)) [ inl q ↦ rw (e, q) refl | inr q ↦ rw (e, q) refl ]
    ]

pub join-step : (its : List ItemValue) (x : Message) → items_with its x ≡ items_after_step (step_of (open_sid_in its) x) (open_exchange_in its) its x
join-step its x =
    elim (cases_Bool (is_tester_request x)) [ inl e ↦ rw e refl | inr e ↦ rw e (join_by-step its (open_exchange_in its) x) ]

-- the items with one more message, by the step that was found
pub items-found : (M : List Message) (x : Message) (s : Step) (its : List ItemValue) → its ≡ meaning M → s ≡ step_after M x
    → items_after_step s (open_exchange_in its) its x ≡ meaning (M ++ x ∷ [])
items-found M x s its is step_is =
    (λ i. items_after_step ((step_is ∙ sym (step_by_items M x)) i) (open_exchange_in (is i)) (is i) x) ∙ sym (join-step (meaning M) x)
    ∙ sym (meaning_goes_on M x)

-- ---- the exchange that waits, by its place

waits-at : (o : Option (ℕ × List ℕ)) (place : ℕ) → option_map (λ w. w.0) o ≡ Some place → (w : ℕ × List ℕ) × (o ≡ Some w) × (w.0 ≡ place)
waits-at None place is = absurd (none-some _ is)
waits-at (Some w) place is = (w, refl, same_Some _ _ is)

module _ (its : List ItemValue) (place : ℕ) (kept : IsOpenPlace its (Some place)) where
  pub waits : (w : ℕ × List ℕ) × (open_exchange_in its ≡ Some w) × (w.0 ≡ place)
  waits = waits-at (open_exchange_in its) place kept

  pub waits-below : place < length its
  waits-below = let w = waits in omega (arith, w.2, slice_get_within its w.0.0 (exchange w.0.1 None) (open_exchange-at its w.0 w.1))

  pub waits-exchange : slice_get its place ≡ Some (exchange waits.0.1 None)
  waits-exchange = let w = waits in ap (slice_get its) (sym w.2) ∙ open_exchange-at its w.0 w.1

  -- the items with its answer
  pub answered : (x : Message) → slice_set its place (exchange waits.0.1 (Some x.1)) ≡ items_after_step step.Answer (open_exchange_in its) its x
  answered x =
      let w = waits in
      ap (λ i. slice_set its i (exchange w.0.1 (Some x.1))) (sym w.2) ∙ ap (λ o. items_after_step step.Answer o its x) (sym w.1)

  -- an answer changes the items
  pub changes-answer : (x : Message) → items_after_step step.Answer (open_exchange_in its) its x ≢ its
  changes-answer x same =
      let w = waits in
      let set : slice_set its w.0.0 (exchange w.0.1 (Some x.1)) ≡ its = ap (λ o. items_after_step step.Answer o its x) (sym w.1) ∙ same in
      none-some _ (sym (open_exchange-answered its w.0 x.1 w.1) ∙ ap open_exchange_in set ∙ w.1)

  -- and then none waits
  pub kept-answer : (reply : List ℕ) → IsOpenPlace (slice_set its place (exchange waits.0.1 (Some reply))) None
  kept-answer reply =
      let w = waits in
      ap (λ i. option_map (λ v. v.0) (open_exchange_in (slice_set its i (exchange w.0.1 (Some reply))))) (sym w.2)
      ∙ ap (option_map (λ v. v.0)) (open_exchange-answered its w.0 reply w.1)

-- what is kept of a list with one more request, or one more stray
pub kept-request : (its : List ItemValue) (request : List ℕ) (place : ℕ) → place ≡ length its
    → IsOpenPlace (its ++ exchange request None ∷ []) (Some place)
kept-request its request place is = ap (option_map (λ v. v.0)) (open_exchange-request its request) ∙ ap (λ n. Some n) (sym is)

pub kept-stray : (its : List ItemValue) (open_place : Option ℕ) (x : Message) → IsOpenPlace its open_place
    → IsOpenPlace (its ++ stray_of x ∷ []) open_place
kept-stray its open_place x kept = ap (option_map (λ v. v.0)) (open_exchange-stray its x.0 x.1) ∙ kept
