-- In words, what is told of where two logs differ has no byte exactly where no item differs.
use Rattle.std.proofs.Common.{◌≡◌, ◌⊎◌, ℕ, List, [], ◌∷◌, length, Result, Ok, Err, arith, refl, ap, sym, ◌∙◌}
use Rattle.std.specs.Prelude.{◌↔◌}
use Rattle.isotp_receive.specs.declared.TheConstants.{MESSAGE_LIMIT}
use Rattle.trace_canon.specs.declared.collector.Session.{Session}
use Rattle.trace_canon.specs.declared.in_memory.CountedComparison.{CountedComparison}
use Rattle.trace_difference.specs.Written.{difference_text}
use Rattle.trace_difference.proofs.Promises.{nothing_is_written_of_equal_sessions}
use Rattle.trace_log.specs.Settings.{Settings}
use Rattle.trace_text.specs.declared.notation.Notation.TheVariants.{Text}
use Rattle.uds_exchange.specs.Meaning.{ItemValue}
use Rattle.uds_rules.specs.Rule.{RuleValue}
use Rattle.udsnorm_c.specs.declared.answer.UdsnormAnswer.{UdsnormAnswer}
use Rattle.udsnorm_c.specs.Answered.{DifferencePuts, first_item}
use Rattle.udsnorm_c.specs.Laws.{DiffIsEmptyOfEqualLogs}
use Rattle.udsnorm_c.proofs.EqualTexts.{item_of_same}
use Rattle.udsnorm_c.proofs.Unput.{never_put, of_no_config, of_side, so_has}

no_byte : (text : List ℕ) → length text ≡ 0 → text ≡ []
no_byte [] none = refl
no_byte (b ∷ text) none = absurd (omega (arith, none))

-- one number is 0 exactly where the lists are equal, and so is the other
both_zero : (item first many count : ℕ) (xs ys : List ItemValue) → item ≡ first → many ≡ count → (first ≡ 0) ↔ (xs ≡ ys) → (xs ≡ ys) ↔ (count ≡ 0)
    → (item ≡ 0) ↔ (many ≡ 0)
both_zero item first many count xs ys item_is many_is of_item of_many = (
  λ zero. many_is ∙ of_many.0 (of_item.0 (sym item_is ∙ zero)),
  λ zero. item_is ∙ of_item.1 (of_many.1 (sym many_is ∙ zero)),
)

-- equal sessions, by the length of the text in words
by_length : (rules : List RuleValue) (left_name right_name : List ℕ) (left right : Session)
    → (left.meaning ≡ right.meaning) ↔ (length (difference_text rules Text left_name right_name left right) ≡ 0)
by_length rules left_name right_name left right =
    let law = nothing_is_written_of_equal_sessions rules left_name right_name left right in
    (λ same. ap (λ (t : List ℕ). length t) (law.0 same), λ none. law.1 (no_byte (difference_text rules Text left_name right_name left right) none))

empty_under : (settings : Settings) (left_name right_name left right old new : List ℕ) (answer : UdsnormAnswer)
    → DifferencePuts MESSAGE_LIMIT left_name right_name left right old new answer settings Text
    → (answer.status ≡ 0) ⊎ (answer.status ≡ 9) → (answer.item ≡ 0) ↔ (answer.length ≡ 0)
empty_under settings left_name right_name left right old new answer (Ok told, (compared, compares, spelled, counts), (front, says)) put =
    let xs = compared.left.meaning in
    let ys = compared.right.meaning in
    both_zero answer.item (first_item compared.comparison) answer.length (length (difference_text settings.rules Text left_name right_name compared.left compared.right)) xs ys
    (ap (λ (a : UdsnormAnswer). a.item) says ∙ ap (λ (c : CountedComparison). first_item c.comparison) counts)
    (ap (λ (a : UdsnormAnswer). a.length) says ∙ ap (λ (t : List ℕ). length t) spelled)
    (item_of_same compared.comparison xs ys compares.2) (by_length settings.rules left_name right_name compared.left compared.right)
empty_under settings left_name right_name left right old new answer (Err fault, none, (same, says)) put =
    absurd (never_put answer (so_has answer _ says (of_side fault)) put)

pub diff_is_empty_of_equal_logs : DiffIsEmptyOfEqualLogs
diff_is_empty_of_equal_logs given left_name right_name left right old new answer (Ok settings, configured, puts) put =
    empty_under settings left_name right_name left right old new answer puts put
diff_is_empty_of_equal_logs given left_name right_name left right old new answer (Err why, configured, refused) put =
    absurd (never_put answer (of_no_config why old new answer refused) put)
