-- The number of the open exchange, with one more message.
use Rattle.std.proofs.Common.{◌≡◌, ℕ, ◌-◌, not, ◌&&◌, ◌+◌, List, [], ◌∷◌, ◌++◌, length, Option, Some, None, arith, refl, ◌∙◌}
use Rattle.std.proofs.Common.{ap, inl, inr, length-append, option_map}
use Rattle.std.proofs.lemmas.Bool.{cases_Bool}
use Rattle.direction.specs.Dir.{Message}
use Rattle.uds_message.specs.Message.{sid, is_final_for, is_pending_for}
use Rattle.uds_exchange.specs.Meaning.{is_from_tester, is_tester_request, meaning}
use Rattle.uds_exchange.specs.Order.{held, open_request}
use Rattle.uds_exchange.specs.OneMessage.{step_of}
use Rattle.uds_exchange.specs.proving.Steps.{open_sid_after_step, held_after_step}
use Rattle.uds_exchange.specs.Judging.{step_after, number_by, number_after}
use Rattle.uds_exchange.specs.proving.ItemNumbers.{open_number_if_any, item_count_after_step, open_number_after_step}
use Rattle.uds_exchange.specs.declared.step.Step.{Step}
use Rattle.uds_exchange.specs.declared.step.Step.TheVariants as step
use Rattle.uds_exchange.proofs.HeldOfMore.{open-sid-next, held-next}
use Rattle.uds_exchange.proofs.ItemCounts.{items_grow}

abbrev number-of : Option ℕ → List Message → ℕ → Option ℕ
number-of open_sid holds items = option_map (λ service. items - length holds) open_sid

-- where one waits no message passes by
never-passes : (service : ℕ) (x : Message) → step_of (Some service) x ≡ step.Pass → ⊥
never-passes service x is =
    elim (cases_Bool (is_tester_request x)) [
      | inl e ↦ (let no : step.Request (sid x.1) ≡ step.Pass = rw e at is in cc)
      | inr e ↦ elim (cases_Bool (not (is_from_tester x.0) && is_final_for service x.1)) [
        | inl f ↦ (let no : step.Answer ≡ step.Pass = rw (e, f) at is in cc)
        | inr f ↦ elim (cases_Bool (not (is_from_tester x.0) && is_pending_for service x.1)) [
          | inl q ↦ (let no : step.Removed ≡ step.Pass = rw (e, f, q) at is in cc)
          | inr q ↦ (let no : step.Hold ≡ step.Pass = rw (e, f, q) at is in cc)
        ]
      ]
    ]

held-on : (o : Option ℕ) (items : ℕ) (holds : List Message) (x : Message)
    → option_map (λ service. items + 1 - length (holds ++ x ∷ [])) o ≡ option_map (λ service. items - length holds) o
held-on None items holds x = refl
held-on (Some service) items holds x = let more = length-append holds (x ∷ []) in ap (λ n. Some n) (omega arith)

passed-by : (o : Option ℕ) (items held_ones : ℕ) (x : Message) → step_of o x ≡ step.Pass
    → option_map (λ service. items + 1 - held_ones) o ≡ option_map (λ service. items - held_ones) o
passed-by None items held_ones x is = refl
passed-by (Some service) items held_ones x is = absurd (never-passes service x is)

number-by-step : (s : Step) (M : List Message) (x : Message) → step_after M x ≡ s
    → number-of (open_sid_after_step s (option_map sid (open_request M))) (held_after_step s (held M) x)
    (item_count_after_step s (length (meaning M)))
    ≡ open_number_after_step s (number_by s M) (open_number_if_any M)
number-by-step (step.Request service) M x is = ap (λ n. Some n) (omega arith)
number-by-step step.Answer M x is = refl
number-by-step step.Removed M x is = refl
number-by-step step.Hold M x is = held-on (option_map sid (open_request M)) (length (meaning M)) (held M) x
number-by-step step.Pass M x is = passed-by (option_map sid (open_request M)) (length (meaning M)) (length (held M)) x is

-- the number of the open exchange with one more message, by what becomes of it
pub open_number_goes_on : (M : List Message) (x : Message) → open_number_if_any (M ++ x ∷ [])
    ≡ open_number_after_step (step_after M x) (number_after M x) (open_number_if_any M)
open_number_goes_on M x =
    (λ i. number-of (open-sid-next M x i) (held-next M x i) (items_grow M x i)) ∙ number-by-step (step_after M x) M x refl
