-- What is told of two exchanges that differ, of which one has no answer, or neither has.
use Rattle.std.proofs.Common.{◌≡◌, ◌≢◌, ℕ, Bool, true, false, List, [], ◌++◌, Option, Some, None, ap, append_assoc, refl, sym, ◌∙◌}
use Rattle.std.specs.Prelude.{codes, if◌then◌else◌}
use Rattle.uds_message.specs.Message.{is_negative_response, is_suppressing, response_code}
use Rattle.uds_difference.specs.Likeness.{same_bytes}
use Rattle.uds_rules.specs.Rule.{RuleValue}
use Rattle.uds_exchange.specs.Meaning.{exchange}
use Rattle.pair_words.specs.ByteWords.{byte_words}
use Rattle.trace_pair.specs.ItemWords.{answer_bytes, answers_differ, between, came_of, differ, outcome_in, outcomes_differ, same_outcome}
use Rattle.trace_pair.specs.OutcomeLaws.{asked_words, none_outcome, none_words}
use Rattle.pair_words.specs.declared.log.PairLog.TheVariants.{A, B}
use Rattle.trace_pair.specs.declared.outcome.Outcome.{Outcome}
use Rattle.trace_pair.specs.declared.outcome.Outcome.TheVariants.{Positive, Refused}

-- what came of a request that was answered, negatively or not
abbrev pub answered : Bool → ℕ → Outcome
answered negative code = if negative then Refused code else Positive

-- two outcomes that are not the same are told behind what differs of the requests
told-apart : (rules : List RuleValue) (alike : Bool) (bytes : List ℕ) (one other : Outcome) (answer reply : Option (List ℕ)) → same_outcome one other ≡ false
    → (if alike then answers_differ rules [] one other answer reply else codes "request" ++ bytes ++ answers_differ rules (codes "; ") one other answer reply)
    ≡ (if alike then [] else codes "request" ++ bytes ++ codes "; ") ++ outcomes_differ one other
told-apart rules true bytes one other answer reply different = ap (λ (same : Bool). if same then answer_bytes rules [] answer reply else outcomes_differ one other) different
told-apart rules false bytes one other answer reply different =
    ap (λ (same : Bool). codes "request" ++ bytes ++ (if same then answer_bytes rules (codes "; ") answer reply else codes "; " ++ outcomes_differ one other)) different
    ∙ sym (append_assoc (codes "request" ++ bytes) (codes "; ") (outcomes_differ one other))

-- what came of a request with an answer is not what came of one without
other-left : (negative silent : Bool) (code : ℕ) → same_outcome (answered negative code) (none_outcome silent) ≡ false
other-left true true code = refl
other-left true false code = refl
other-left false true code = refl
other-left false false code = refl

other-right : (silent negative : Bool) (code : ℕ) → same_outcome (none_outcome silent) (answered negative code) ≡ false
other-right true true code = refl
other-right true false code = refl
other-right false true code = refl
other-right false false code = refl

other-none : (one other : Bool) → one ≢ other → same_outcome (none_outcome one) (none_outcome other) ≡ false
other-none true true apart = absurd (apart refl)
other-none true false apart = refl
other-none false true apart = refl
other-none false false apart = absurd (apart refl)

words-left : (silent : Bool) (other : Outcome) → outcomes_differ (none_outcome silent) other ≡ none_words A silent ++ between (none_outcome silent) ++ outcome_in B false other
words-left true other = refl
words-left false other = refl

words-right : (negative silent : Bool) (code : ℕ)
    → outcomes_differ (answered negative code) (none_outcome silent) ≡ outcome_in A false (answered negative code) ++ codes ", " ++ none_words B silent
words-right true true code = refl
words-right true false code = refl
words-right false true code = refl
words-right false false code = refl

words-both : (one other : Bool) → outcomes_differ (none_outcome one) (none_outcome other) ≡ none_words A one ++ between (none_outcome one) ++ none_words B other
words-both true true = refl
words-both true false = refl
words-both false true = refl
words-both false false = refl

-- two exchanges, of which the first one has no answer
pub left-none : (rules : List RuleValue) (request other reply : List ℕ)
    → differ rules (exchange request None) (exchange other (Some reply))
    ≡ asked_words rules request other ++ (none_words A (is_suppressing request) ++ between (none_outcome (is_suppressing request)) ++ outcome_in B false (came_of other (Some reply)))
left-none rules request other reply =
    let silent = is_suppressing request in
    let negative = is_negative_response reply in
    let code = response_code reply in
    told-apart rules (same_bytes request other) (byte_words rules request other) (none_outcome silent) (answered negative code) None (Some reply) (other-right silent negative code)
    ∙ ap (λ (words : List ℕ). asked_words rules request other ++ words) (words-left silent (answered negative code))

-- of which the second one has none
pub right-none : (rules : List RuleValue) (request other reply : List ℕ)
    → differ rules (exchange request (Some reply)) (exchange other None)
    ≡ asked_words rules request other ++ (outcome_in A false (came_of request (Some reply)) ++ codes ", " ++ none_words B (is_suppressing other))
right-none rules request other reply =
    let silent = is_suppressing other in
    let negative = is_negative_response reply in
    let code = response_code reply in
    told-apart rules (same_bytes request other) (byte_words rules request other) (answered negative code) (none_outcome silent) (Some reply) None (other-left negative silent code)
    ∙ ap (λ (words : List ℕ). asked_words rules request other ++ words) (words-right negative silent code)

-- and of which neither has one
pub both-none : (rules : List RuleValue) (request other : List ℕ) → is_suppressing request ≢ is_suppressing other
    → differ rules (exchange request None) (exchange other None)
    ≡ asked_words rules request other ++ (none_words A (is_suppressing request) ++ between (none_outcome (is_suppressing request)) ++ none_words B (is_suppressing other))
both-none rules request other apart =
    told-apart rules (same_bytes request other) (byte_words rules request other) (none_outcome (is_suppressing request)) (none_outcome (is_suppressing other)) None None
    (other-none (is_suppressing request) (is_suppressing other) apart)
    ∙ ap (λ (words : List ℕ). asked_words rules request other ++ words) (words-both (is_suppressing request) (is_suppressing other))
