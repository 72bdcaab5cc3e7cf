-- How many items there are with one more message, how many messages are held and how many are removed.
use Rattle.std.proofs.Common.{◌≡◌, ℕ, ◌+◌, ◌<◌, ◌≤◌, false, List, [], ◌∷◌, ◌++◌, length, Option, Some, None, arith, refl, ◌∙◌}
use Rattle.std.proofs.Common.{ap, inl, inr, length-append, suc, option_map, length-set}
use Rattle.std.proofs.lemmas.Bool.{cases_Bool}
use Rattle.direction.specs.Dir.{Message}
use Rattle.direction.specs.declared.Dir.TheVariants as dir
use Rattle.uds_message.specs.Message.{sid, is_request, is_final_for, is_pending_for}
use Rattle.uds_exchange.specs.Laws.{removed_with}
use Rattle.uds_exchange.specs.Meaning.{ItemValue, exchange, stray, stray_of, is_tester_request, is_answer_to}
use Rattle.uds_exchange.specs.Meaning.{is_pending_reply_to, meaning, flattened, removed_messages}
use Rattle.uds_exchange.specs.Order.{has_exchange, held, held_in, early, open_request, open_request_in}
use Rattle.uds_exchange.specs.proving.OpenExchange.{open_exchange_in, open_sid_in}
use Rattle.uds_exchange.specs.proving.Pairing.{items_with_other, items_with}
use Rattle.uds_exchange.specs.OneMessage.{step_of}
use Rattle.uds_exchange.specs.Judging.{step_after}
use Rattle.uds_exchange.specs.proving.ItemNumbers.{item_count_after_step}
use Rattle.uds_exchange.specs.declared.step.Step.{Step}
use Rattle.uds_exchange.specs.declared.step.Step.TheVariants as step
use Rattle.uds_exchange.proofs.NoneLost.{none_is_lost, none_is_lost_in_order}
use Rattle.uds_exchange.proofs.MeaningOfMore.{meaning_goes_on}
use Rattle.uds_exchange.proofs.OpenRequestOfMore.{removed_go_on}
use Rattle.uds_exchange.proofs.OpenExchange.{sid_of}
use Rattle.uds_exchange.proofs.HeldOfMore.{step_by_items}

one-longer : (its : List ItemValue) (item : ItemValue) → length (its ++ item ∷ []) ≡ length its + 1
one-longer its item = length-append its (item ∷ [])

join-by-length : (its : List ItemValue) (x : Message) (w : Option (ℕ × List ℕ)) → is_tester_request x ≡ false
    → length (items_with_other w its x) ≡ item_count_after_step (step_of (sid_of w) x) (length its)
join-by-length its x None r = rw r (one-longer its (stray_of x))
join-by-length its x (Some w) r =
    elim (cases_Bool (is_answer_to w.1 x)) [
      | inl e ↦ rw (r, e) (length-set its w.0 (exchange w.1 (Some x.1)))
      | inr e ↦ elim (cases_Bool (is_pending_reply_to w.1 x)) [
        | inl q ↦ rw (r, e, q) refl
        | inr q ↦ rw (r, e, q) (one-longer its (stray_of x))
      ]
    ]

join-length : (its : List ItemValue) (x : Message) → length (items_with its x) ≡ item_count_after_step (step_of (open_sid_in its) x) (length its)
join-length its x =
    elim (cases_Bool (is_tester_request x)) [
      | inl e ↦ rw e (one-longer its (exchange x.1 None))
      | inr e ↦ (ap length (let j : items_with its x ≡ items_with_other (open_exchange_in its) its x = rw e refl in j)
          ∙ join-by-length its x (open_exchange_in its) e)
    ]

-- how many items there are with one more message, by what becomes of it
pub items_grow : (M : List Message) (x : Message) → length (meaning (M ++ x ∷ [])) ≡ item_count_after_step (step_after M x) (length (meaning M))
items_grow M x =
    ap length (meaning_goes_on M x) ∙ join-length (meaning M) x ∙ ap (λ s. item_count_after_step s (length (meaning M))) (step_by_items M x)

-- each item has a message, so that there are no more items than messages
pub items_are_few : (its : List ItemValue) → length its ≤ length (flattened its)
items_are_few [] = omega arith
items_are_few (exchange r None ∷ its) = let rest = items_are_few its in omega arith
items_are_few (exchange r (Some a) ∷ its) = let rest = items_are_few its in omega arith
items_are_few (stray d m ∷ its) = let rest = items_are_few its in omega arith

-- nor than those of the list
pub items_within_messages : (M : List Message) → length (meaning M) ≤ length M
items_within_messages M = let few = items_are_few (meaning M) in let all = none_is_lost M in omega arith

-- where a request waits, it is an item before those that are held
strays-long : (its : List ItemValue) → has_exchange its ≡ false → length (flattened its) ≡ length its
strays-long [] none = refl
strays-long (exchange r a ∷ its) none = cc
strays-long (stray d m ∷ its) none = ap (λ n. suc n) (strays-long its none)

held-fewer : (its : List ItemValue) (r : List ℕ) → open_request_in its ≡ Some r → length (held_in its) < length its
held-fewer [] r waits = cc
held-fewer (stray d m ∷ its) r waits = let rest = held-fewer its r waits in omega (arith, rest)
held-fewer (exchange q (Some a) ∷ its) r waits = let rest = held-fewer its r waits in omega (arith, rest)
held-fewer (exchange q None ∷ its) r waits =
    elim (cases_Bool (has_exchange its)) [
      | inl e ↦ (let rest = held-fewer its r (rw e at waits) in rw e (omega (arith, rest)))
      | inr e ↦ (let long = strays-long its e in rw e (omega (arith, long)))
    ]

-- where a request is open, fewer messages are held than there are items
pub held_are_fewer : (M : List Message) (request : List ℕ) → open_request M ≡ Some request → length (held M) < length (meaning M)
held_are_fewer M request waits = held-fewer (meaning M) request waits

-- no more messages are held than there are
pub few-held : (M : List Message) → length (held M) ≤ length M
few-held M = let both = length-append (early M) (held M) in let all = none_is_lost_in_order M in omega arith

-- how many messages a step leaves out
abbrev pub left-out-by : Step → ℕ
left-out-by (step.Request service) = 0
left-out-by step.Answer = 0
left-out-by step.Removed = 1
left-out-by step.Hold = 0
left-out-by step.Pass = 0

left-out : (o : Option (List ℕ)) (x : Message) → length (removed_with o x) ≡ left-out-by (step_of (option_map sid o) x)
left-out None (dir.Tester, bytes) = elim (cases_Bool (is_request bytes)) [ inl e ↦ rw e refl | inr e ↦ rw e refl ]
left-out (Some request) (dir.Tester, bytes) = elim (cases_Bool (is_request bytes)) [ inl e ↦ rw e refl | inr e ↦ rw e refl ]
left-out None (dir.Unit, bytes) = refl
left-out (Some request) (dir.Unit, bytes) =
    elim (cases_Bool (is_final_for (sid request) bytes)) [
      | inl e ↦ rw e refl
      | inr e ↦ elim (cases_Bool (is_pending_for (sid request) bytes)) [ inl q ↦ rw (e, q) refl | inr q ↦ rw (e, q) refl ]
    ]

-- how many are removed with one more message, by what becomes of it
pub removed-next : (M : List Message) (x : Message) → length (removed_messages (M ++ x ∷ []))
    ≡ length (removed_messages M) + left-out-by (step_after M x)
removed-next M x =
    ap length (removed_go_on M x) ∙ length-append (removed_messages M) (removed_with (open_request M) x)
    ∙ ap (λ n. length (removed_messages M) + n) (left-out (open_request M) x)

-- no more are removed than there are
pub few-removed : (M : List Message) → length (removed_messages M) ≤ length M
few-removed M = let all = none_is_lost M in omega arith
