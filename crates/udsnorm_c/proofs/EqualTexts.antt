-- Two logs have equal meaning exactly where their canonical logs, as they were put, are equal.
use Rattle.std.proofs.Common.{◌≡◌, ◌⊎◌, ◌≤◌, ◌<◌, ◌^◌, ℕ, ◌+◌, Bool, true, false, List, [], length, drop, take, Result, Ok, Err, arith, refl, ap, sym, subst, ◌∙◌, inl, inr}
use Rattle.std.specs.Prelude.{◌↔◌, nat_le, nat_lt, slice_get, if◌then◌else◌}
use Rattle.std.proofs.lemmas.List.{take_at}
use Rattle.isotp_receive.specs.declared.TheConstants.{MESSAGE_LIMIT}
use Rattle.trace_canon.specs.Compared.{difference}
use Rattle.trace_canon.specs.InMemory.{ComparesWithCounts, IsCanonicalLogWith, IsRefused, NeedsMemoryForCanonicalLog}
use Rattle.trace_canon.specs.declared.comparer.Comparison.{Comparison}
use Rattle.trace_canon.specs.declared.comparer.Comparison.TheVariants.{Same, Different}
use Rattle.trace_canon.specs.declared.in_memory.CountedComparison.{CountedComparison}
use Rattle.trace_log.specs.Answers.{TellsOutcome}
use Rattle.trace_log.specs.Laws.{HaveSameMeaning, IsMessageLimit, OutcomeIsOne}
use Rattle.trace_log.specs.Messages.{HasMeaning}
use Rattle.trace_log.specs.Outcome.{Accepted, IsOutcome}
use Rattle.trace_log.specs.Refusal.{Refusal, bad_line, long_canonical_log, long_log, oversize_message}
use Rattle.trace_log.specs.Settings.{AreSettings, Settings}
use Rattle.trace_log.specs.declared.fault.CompareFault.{CompareFault}
use Rattle.trace_log.specs.declared.fault.CompareFault.TheVariants.{Left, Right}
use Rattle.trace_log.specs.declared.fault.Fault.{Fault}
use Rattle.trace_log.specs.declared.fault.Fault.TheVariants.{BadLine, Oversize, LogLimit, OutputLimit, Read, Write, Memory}
use Rattle.trace_log.proofs.Promises.{one_meaning, same_meaning_same_text}
use Rattle.uds_exchange.specs.Difference.{IsFirstDifference}
use Rattle.uds_exchange.specs.Meaning.{ItemValue}
use Rattle.udsnorm_c.specs.declared.answer.UdsnormAnswer.{UdsnormAnswer}
use Rattle.udsnorm_c.specs.Answered.{IsRefusalPut, NormaliseAnswers, TextAnswers, comparison_answer, fault_answer, first_item, number_of}
use Rattle.udsnorm_c.specs.Given.{Configured, GivenValue}
use Rattle.udsnorm_c.specs.Laws.{AsksForSome, CompareTellsEqualTexts, EqualMeaningsHaveEqualTexts, IsNormalisedTo}
use Rattle.udsnorm_c.specs.Spelled.{put_at_front}
use Rattle.udsnorm_c.specs.declared.given.NoConfig.{NoConfig}
use Rattle.udsnorm_c.proofs.OneConfig.{are_given, config_is_one, config_or_memory}
use Rattle.udsnorm_c.proofs.Unput.{never_put, of_fault, of_no_config, so_has}

-- ---- the text that was put is the canonical log

-- There are these settings, the log is accepted, and this is its text.
record HasText (settings : Settings) (log text : List ℕ) : Type 0 where
  are : AreSettings settings
  accepted : Accepted
  outcome : IsOutcome MESSAGE_LIMIT settings log (Ok accepted)
  is : text ≡ accepted.text

had_room : (b : Bool) → ◌≡◌ {A = ℕ} (if b then 0 else 9) 0 → b ≡ true
had_room true done = refl
had_room false done = absurd (omega (arith, done))

fronted : (text old : List ℕ) → nat_le (length text) (length old) ≡ true → take (length text) (put_at_front text old) ≡ text
fronted text old fits = rw fits (take_at text (drop (length text) old) (length text) refl)

text_under : (settings : Settings) (log old new : List ℕ) (answer : UdsnormAnswer) → AreSettings settings
    → TextAnswers (IsCanonicalLogWith MESSAGE_LIMIT settings log) (IsRefused NeedsMemoryForCanonicalLog MESSAGE_LIMIT settings log) old new answer → answer.status ≡ 0
    → HasText settings log (take answer.length new)
text_under settings log old new answer are (Ok counted, outcome, (front, says)) done =
    let text = counted.text.items in
    let fits = had_room (nat_le (length text) (length old)) (sym (ap (λ (a : UdsnormAnswer). a.status) says) ∙ done) in
    record {
      are = are;
      accepted = record { text = text; summary = counted.summary };
      outcome = outcome;
      is = ap (λ (a : UdsnormAnswer). take a.length new) says ∙ ap (take (length text)) front ∙ fronted text old fits;
    }
text_under settings log old new answer are (Err fault, why, (same, says)) done = absurd (never_put answer (so_has answer _ says (of_fault fault)) (inl done))

text_put : (given : GivenValue) (log old new : List ℕ) (answer : UdsnormAnswer) → NormaliseAnswers MESSAGE_LIMIT given log old new answer → answer.status ≡ 0
    → AsksForSome given (λ settings. HasText settings log (take answer.length new))
text_put given log old new answer (Ok settings, configured, told) done =
    (settings, configured, text_under settings log old new answer (are_given given settings configured) told done)
text_put given log old new answer (Err why, configured, put) done = absurd (never_put answer (of_no_config why old new answer put) (inl done))

has_text : (given : GivenValue) (log text : List ℕ) → IsNormalisedTo given log text → AsksForSome given (λ settings. HasText settings log text)
has_text given log text is =
    let put = text_put given log is.old is.new is.answer is.answers is.done in
    (put.0, put.1, subst (λ (t : List ℕ). HasText put.0 log t) (sym is.put) put.2)

-- the same under the settings that are asked for
text_of : (given : GivenValue) (settings : Settings) (log text : List ℕ) → Configured given (Ok settings) → IsNormalisedTo given log text → HasText settings log text
text_of given settings log text configured is =
    let found = has_text given log text is in
    subst (λ (s : Settings). HasText s log text) (config_is_one given found.0 settings found.1 configured) found.2

-- so equal meanings have equal texts
meaning_by_text : (settings : Settings) (left right one other : List ℕ) → HasText settings left one → HasText settings right other
    → HaveSameMeaning MESSAGE_LIMIT settings left right ↔ (one ≡ other)
meaning_by_text settings left right one other of_left of_right =
    let is : IsMessageLimit MESSAGE_LIMIT = record { least = omega arith; most = omega arith } in
    let law = same_meaning_same_text MESSAGE_LIMIT settings is of_left.are left right of_left.accepted of_right.accepted of_left.outcome of_right.outcome in
    (λ same. of_left.is ∙ law.0 same ∙ sym of_right.is, λ same. law.1 (sym of_left.is ∙ same ∙ of_right.is))

pub equal_meanings_have_equal_texts : EqualMeaningsHaveEqualTexts
equal_meanings_have_equal_texts given left right one other of_left of_right =
    let found = has_text given left one of_left in
    (found.0, found.1, meaning_by_text found.0 left right one other found.2 (text_of given found.0 right other found.1 of_right))

-- ---- and comparing tells it

no_number : (b : Bool) (n : ℕ) → (if b then n + 1 else 0xFFFFFFFFFFFFFFFF) ≡ 0 → ⊥
no_number true n zero = omega (arith, zero)
no_number false n zero = omega (arith, zero)

pub item_of_same : (comparison : Comparison) (one other : List ItemValue) → IsFirstDifference one other (difference comparison) → (first_item comparison ≡ 0) ↔ (one ≡ other)
item_of_same Same one other same = (λ _. same, λ _. refl)
item_of_same (Different place) one other differs = (
  λ zero. absurd (no_number (nat_lt place 0xFFFFFFFFFFFFFFFF) place zero),
  λ same. absurd (differs.1 (ap (λ (items : List ItemValue). slice_get items place) same)),
)

module _ (outcome_is_one : OutcomeIsOne) where
  not_refused : (settings : Settings) (log text : List ℕ) (refusal : Refusal) → HasText settings log text → IsOutcome MESSAGE_LIMIT settings log (Err refusal) → ⊥
  not_refused settings log text refusal accepted refused =
      let same = outcome_is_one MESSAGE_LIMIT settings log (Ok accepted.accepted) (Err refusal) accepted.outcome refused in cc same

  -- of an accepted log no fault tells anything but refused memory
  of_memory : (settings : Settings) (log text : List ℕ) (fault : Fault) → HasText settings log text → TellsOutcome MESSAGE_LIMIT settings log fault → (fault_answer fault).status ≡ 8
  of_memory settings log text (BadLine line column) accepted why = absurd (not_refused settings log text (bad_line line column) accepted why)
  of_memory settings log text (Oversize line announced) accepted why = absurd (not_refused settings log text (oversize_message line announced) accepted why)
  of_memory settings log text LogLimit accepted why = absurd (not_refused settings log text long_log accepted why)
  of_memory settings log text OutputLimit accepted why = absurd (not_refused settings log text long_canonical_log accepted why)
  of_memory settings log text Read accepted why = refl
  of_memory settings log text Write accepted why = refl
  of_memory settings log text Memory accepted why = refl

  compare_under : (settings : Settings) (left right one other : List ℕ) (answer : UdsnormAnswer) (result : Result CountedComparison CompareFault)
      → HasText settings left one → HasText settings right other → ComparesWithCounts MESSAGE_LIMIT settings left right result → answer ≡ comparison_answer result
      → (answer.status ≡ 8) ⊎ ((answer.status ≡ 0) × ((answer.item ≡ 0) ↔ (one ≡ other)))
  compare_under settings left right one other answer (Ok counted) of_left of_right (compared, compares, counts) says =
      let item = ap (λ (a : UdsnormAnswer). a.item) says ∙ ap (λ (c : CountedComparison). first_item c.comparison) counts in
      let of_items = item_of_same compared.comparison compared.left.meaning compared.right.meaning compares.2 in
      let of_texts = meaning_by_text settings left right one other of_left of_right in
      inr (
        ap (λ (a : UdsnormAnswer). a.status) says,
        (
          λ zero. of_texts.0 (record {
            items = compared.left.meaning;
            in_one = compares.0.accepted.means;
            in_other = subst (HasMeaning MESSAGE_LIMIT settings right) (sym (of_items.0 (sym item ∙ zero))) compares.1.accepted.means;
          }),
          λ same. item ∙ of_items.1 (let both = of_texts.1 same in
              one_meaning MESSAGE_LIMIT settings left compared.left.meaning both.items compares.0.accepted.means both.in_one
              ∙ one_meaning MESSAGE_LIMIT settings right both.items compared.right.meaning both.in_other compares.1.accepted.means),
        ),
      )
  compare_under settings left right one other answer (Err (Left fault)) of_left of_right (why, memory) says =
      inl (ap (λ (a : UdsnormAnswer). a.status) says ∙ of_memory settings left one fault of_left why)
  compare_under settings left right one other answer (Err (Right fault)) of_left of_right ((there, why), memory) says =
      inl (ap (λ (a : UdsnormAnswer). a.status) says ∙ of_memory settings right other fault of_right why)

  pub compare_tells_equal_texts : CompareTellsEqualTexts
  compare_tells_equal_texts given left right one other old new answer of_left of_right (Ok settings, configured, (same, (result, compares, says))) =
      compare_under settings left right one other answer result (text_of given settings left one configured of_left) (text_of given settings right other configured of_right) compares says
  compare_tells_equal_texts given left right one other old new answer of_left of_right (Err why, configured, put) =
      let found = has_text given left one of_left in
      let memory = subst (λ (w : NoConfig). IsRefusalPut w old new answer) (config_or_memory given found.0 why found.1 configured) put in
      inl (ap (λ (a : UdsnormAnswer). a.status) memory.1)
