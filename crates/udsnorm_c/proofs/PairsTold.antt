-- What is told of two logs: how they compare, whether both are clean, and whether the sides of one look exchanged.
use Rattle.std.proofs.Common.{◌≡◌, ◌⊎◌, ℕ, Bool, true, List, Option, Some, None, Result, Ok, Err, refl, ap, sym, subst, ◌∙◌, inl, inr}
use Rattle.std.specs.Prelude.{◌&&◌, ◌||◌}
use Rattle.std.proofs.lemmas.Bool.{and_parts}
use Rattle.isotp_receive.specs.declared.TheConstants.{MESSAGE_LIMIT}
use Rattle.trace_canon.specs.Compared.{Compares}
use Rattle.trace_canon.specs.InMemory.{ComparesWithCounts}
use Rattle.trace_canon.specs.Sessions.{IsAcceptedWith}
use Rattle.trace_canon.specs.declared.comparer.Compared.{Compared}
use Rattle.trace_canon.specs.declared.comparer.Comparison.{Comparison}
use Rattle.trace_canon.specs.declared.in_memory.CountedComparison.{CountedComparison}
use Rattle.trace_log.specs.Laws.{CleanLogHasBothSides}
use Rattle.trace_log.specs.Settings.{Settings}
use Rattle.trace_log.specs.Summing.{is_clean, summary_of}
use Rattle.trace_log.specs.Trace.{trace}
use Rattle.trace_log.specs.declared.fault.CompareFault.{CompareFault}
use Rattle.trace_log.specs.declared.summary.Summary.{Summary}
use Rattle.trace_report.specs.Kept.{KeepsOne, KeepsTwo, KeptSessionsValue}
use Rattle.trace_report.specs.Session.{SessionValue, session_of}
use Rattle.trace_pair.specs.Compared.{comparison_in}
use Rattle.trace_pair.specs.Laws.{AgreesWithCompare}
use Rattle.trace_text.specs.declared.notation.Notation.{Notation}
use Rattle.uds_exchange.specs.Meaning.{ItemValue}
use Rattle.udsnorm_c.specs.declared.answer.UdsnormAnswer.{UdsnormAnswer}
use Rattle.udsnorm_c.specs.Answered.{CompareAnswers, DiffAnswers, DifferencePuts, PairPagePuts, ReportPairAnswers, Styled, comparison_answer, first_item, flag, status_alone}
use Rattle.udsnorm_c.specs.Given.{Configured, GivenValue}
use Rattle.udsnorm_c.specs.Laws.{AsksForSome, CleanCompareIsRecorded, CleanDiffIsRecorded, CleanReportPairIsRecorded, DiffAgreesWithCompare, IsRecorded, PairPageAgreesWithCompare}
use Rattle.udsnorm_c.specs.Spelled.{notation_of}
use Rattle.udsnorm_c.proofs.OneConfig.{config_is_one}
use Rattle.udsnorm_c.proofs.Recorded.{AreCountsOf, flag_set, of_accepted, one_count, recorded}
use Rattle.udsnorm_c.proofs.Unput.{has_no_text, never_clean, never_put, of_no_config, of_no_page, of_side, so_has}

-- The answer says how two logs compare, whether both are clean, and whether the sides of one look exchanged.
record SaysOfTwo (settings : Settings) (left right : List ℕ) (comparison : Comparison) (answer : UdsnormAnswer) : Type 0 where
  one : Summary
  other : Summary
  of_left : AreCountsOf settings left one
  of_right : AreCountsOf settings right other
  item : answer.item ≡ first_item comparison
  clean : answer.clean ≡ flag (is_clean one && is_clean other)
  exchanged : answer.exchanged ≡ flag (one.looks_exchanged || other.looks_exchanged)

-- what is said of two logs that compare so
abbrev ComparedSo : Settings → List ℕ → List ℕ → UdsnormAnswer → Type 0
ComparedSo settings left right answer =
    (compared : Compared) × Compares MESSAGE_LIMIT settings left right (Ok compared) × SaysOfTwo settings left right compared.comparison answer

-- what is said of two logs that are kept
abbrev HeldSo : Settings → List ℕ → List ℕ → UdsnormAnswer → Type 0
HeldSo settings left right answer =
    (held : KeptSessionsValue) × KeepsTwo MESSAGE_LIMIT settings left right (Ok held) × SaysOfTwo settings left right (comparison_in held) answer

compared_under : (settings : Settings) (left right : List ℕ) (answer : UdsnormAnswer) (result : Result CountedComparison CompareFault)
    → ComparesWithCounts MESSAGE_LIMIT settings left right result → answer ≡ comparison_answer result
    → (has_no_text answer ≡ true) ⊎ ComparedSo settings left right answer
compared_under settings left right answer (Ok counted) (compared, compares, counts) says =
    inr (
      compared,
      compares,
      record {
        one = counted.left;
        other = counted.right;
        of_left = subst (λ (c : CountedComparison). AreCountsOf settings left c.left) (sym counts) (of_accepted settings left compared.left.meaning compared.left.summary compares.0.accepted);
        of_right = subst (λ (c : CountedComparison). AreCountsOf settings right c.right) (sym counts) (of_accepted settings right compared.right.meaning compared.right.summary compares.1.accepted);
        item = ap (λ (a : UdsnormAnswer). a.item) says ∙ ap (λ (c : CountedComparison). first_item c.comparison) counts;
        clean = ap (λ (a : UdsnormAnswer). a.clean) says;
        exchanged = ap (λ (a : UdsnormAnswer). a.exchanged) says;
      },
    )
compared_under settings left right answer (Err fault) why says = inl (so_has answer _ says (of_side fault))

-- an answer has no text, or this holds of the settings that are asked for
abbrev Says : GivenValue → UdsnormAnswer → (Settings → Type 0) → Type 0
Says given answer Holds = (has_no_text answer ≡ true) ⊎ AsksForSome given Holds

says_under : (given : GivenValue) (settings : Settings) (answer : UdsnormAnswer) (Holds : Settings → Type 0) → Configured given (Ok settings)
    → (has_no_text answer ≡ true) ⊎ Holds settings → Says given answer Holds
says_under given settings answer Holds configured (inl none) = inl none
says_under given settings answer Holds configured (inr holds) = inr (settings, configured, holds)

compared_told : (given : GivenValue) (left right old new : List ℕ) (answer : UdsnormAnswer) → CompareAnswers MESSAGE_LIMIT given left right old new answer
    → Says given answer (λ settings. ComparedSo settings left right answer)
compared_told given left right old new answer (Ok settings, configured, (same, (result, compares, says))) =
    says_under given settings answer (λ settings. ComparedSo settings left right answer) configured (compared_under settings left right answer result compares says)
compared_told given left right old new answer (Err why, configured, put) = inl (of_no_config why old new answer put)

-- what is said where it is asked in some notation where two logs differ, if there is such a style
difference_under : (settings : Settings) (left_name right_name left right old new : List ℕ) (answer : UdsnormAnswer) (found : Option Notation)
    → Styled found (DifferencePuts MESSAGE_LIMIT left_name right_name left right old new answer settings) old new answer
    → (has_no_text answer ≡ true) ⊎ ComparedSo settings left right answer
difference_under settings left_name right_name left right old new answer None (same, says) = inl (so_has answer (status_alone 10) says refl)
difference_under settings left_name right_name left right old new answer (Some notation) (Ok told, (compared, compares, spelled, counts), (front, says)) =
    inr (
      compared,
      compares,
      record {
        one = told.counted.left;
        other = told.counted.right;
        of_left = subst (λ (c : CountedComparison). AreCountsOf settings left c.left) (sym counts) (of_accepted settings left compared.left.meaning compared.left.summary compares.0.accepted);
        of_right = subst (λ (c : CountedComparison). AreCountsOf settings right c.right) (sym counts) (of_accepted settings right compared.right.meaning compared.right.summary compares.1.accepted);
        item = ap (λ (a : UdsnormAnswer). a.item) says ∙ ap (λ (c : CountedComparison). first_item c.comparison) counts;
        clean = ap (λ (a : UdsnormAnswer). a.clean) says;
        exchanged = ap (λ (a : UdsnormAnswer). a.exchanged) says;
      },
    )
difference_under settings left_name right_name left right old new answer (Some notation) (Err fault, none, (same, says)) = inl (so_has answer _ says (of_side fault))

difference_told : (given : GivenValue) (style : ℕ) (left_name right_name left right old new : List ℕ) (answer : UdsnormAnswer)
    → DiffAnswers MESSAGE_LIMIT given style left_name right_name left right old new answer
    → Says given answer (λ settings. ComparedSo settings left right answer)
difference_told given style left_name right_name left right old new answer (Ok settings, configured, puts) =
    says_under given settings answer (λ settings. ComparedSo settings left right answer) configured
    (difference_under settings left_name right_name left right old new answer (notation_of style) puts)
difference_told given style left_name right_name left right old new answer (Err why, configured, put) = inl (of_no_config why old new answer put)

of_held : (settings : Settings) (log : List ℕ) (session : SessionValue) → KeepsOne MESSAGE_LIMIT settings log (Ok session) → AreCountsOf settings log session.summary
of_held settings log session (meanings, read, is) = (meanings, read.1, ap (λ (s : SessionValue). s.summary) is)

held_under : (settings : Settings) (left_name right_name left right old new : List ℕ) (answer : UdsnormAnswer)
    → PairPagePuts MESSAGE_LIMIT left_name right_name left right old new answer settings
    → (has_no_text answer ≡ true) ⊎ HeldSo settings left right answer
held_under settings left_name right_name left right old new answer (style, Ok page, (held, holds, spelled, counts), (front, says)) =
    inr (
      held,
      holds,
      record {
        one = page.counted.left;
        other = page.counted.right;
        of_left = subst (λ (c : CountedComparison). AreCountsOf settings left c.left) (sym counts) (of_held settings left held.left holds.0);
        of_right = subst (λ (c : CountedComparison). AreCountsOf settings right c.right) (sym counts) (of_held settings right held.right holds.1);
        item = ap (λ (a : UdsnormAnswer). a.item) says ∙ ap (λ (c : CountedComparison). first_item c.comparison) counts;
        clean = ap (λ (a : UdsnormAnswer). a.clean) says;
        exchanged = ap (λ (a : UdsnormAnswer). a.exchanged) says;
      },
    )
held_under settings left_name right_name left right old new answer (style, Err why, none, (same, says)) = inl (so_has answer _ says (of_no_page why))

held_told : (given : GivenValue) (left_name right_name left right old new : List ℕ) (answer : UdsnormAnswer)
    → ReportPairAnswers MESSAGE_LIMIT given left_name right_name left right old new answer
    → Says given answer (λ settings. HeldSo settings left right answer)
held_told given left_name right_name left right old new answer (Ok settings, configured, puts) =
    says_under given settings answer (λ settings. HeldSo settings left right answer) configured (held_under settings left_name right_name left right old new answer puts)
held_told given left_name right_name left right old new answer (Err why, configured, put) = inl (of_no_config why old new answer put)

-- ---- both are clean

both_recorded : CleanLogHasBothSides → (settings : Settings) (left right : List ℕ) (comparison : Comparison) (answer : UdsnormAnswer)
    → SaysOfTwo settings left right comparison answer → answer.clean ≡ 1 → IsRecorded settings left × IsRecorded settings right
both_recorded has_both_sides settings left right comparison answer says clean =
    let both = and_parts (is_clean says.one) (is_clean says.other) (flag_set (is_clean says.one && is_clean says.other) (sym says.clean ∙ clean)) in
    (recorded has_both_sides settings left says.one says.of_left both.0, recorded has_both_sides settings right says.other says.of_right both.1)

pub clean_compare : CleanLogHasBothSides → CleanCompareIsRecorded
clean_compare has_both_sides given left right old new answer answers clean =
    elim (compared_told given left right old new answer answers) [
      | inl none ↦ absurd (never_clean answer none clean)
      | inr (settings, configured, said) ↦ (settings, configured, both_recorded has_both_sides settings left right said.0.comparison answer said.2 clean)
    ]

pub clean_diff : CleanLogHasBothSides → CleanDiffIsRecorded
clean_diff has_both_sides given style left_name right_name left right old new answer answers clean =
    elim (difference_told given style left_name right_name left right old new answer answers) [
      | inl none ↦ absurd (never_clean answer none clean)
      | inr (settings, configured, said) ↦ (settings, configured, both_recorded has_both_sides settings left right said.0.comparison answer said.2 clean)
    ]

pub clean_report_pair : CleanLogHasBothSides → CleanReportPairIsRecorded
clean_report_pair has_both_sides given left_name right_name left right old new answer answers clean =
    elim (held_told given left_name right_name left right old new answer answers) [
      | inl none ↦ absurd (never_clean answer none clean)
      | inr (settings, configured, said) ↦ (settings, configured, both_recorded has_both_sides settings left right (comparison_in said.0) answer said.2 clean)
    ]

-- ---- a page says what comparing does

say_the_same : (settings : Settings) (left right : List ℕ) (one other : Comparison) (page compared : UdsnormAnswer) → one ≡ other
    → SaysOfTwo settings left right one page → SaysOfTwo settings left right other compared
    → (page.item ≡ compared.item) × (page.clean ≡ compared.clean) × (page.exchanged ≡ compared.exchanged)
say_the_same settings left right one other page compared same of_page of_compared =
    let of_left = one_count settings left of_page.one of_compared.one of_page.of_left of_compared.of_left in
    let of_right = one_count settings right of_page.other of_compared.other of_page.of_right of_compared.of_right in (
      of_page.item ∙ ap first_item same ∙ sym of_compared.item,
      of_page.clean ∙ ap (λ (s : Summary). flag (is_clean s && is_clean of_page.other)) of_left
          ∙ ap (λ (s : Summary). flag (is_clean of_compared.one && is_clean s)) of_right ∙ sym of_compared.clean,
      of_page.exchanged ∙ ap (λ (s : Summary). flag (s.looks_exchanged || of_page.other.looks_exchanged)) of_left
          ∙ ap (λ (s : Summary). flag (of_compared.one.looks_exchanged || s.looks_exchanged)) of_right ∙ sym of_compared.exchanged,
    )

-- what comparing says, of the settings that another call was answered by
compared_by : (given : GivenValue) (settings : Settings) (left right : List ℕ) (answer : UdsnormAnswer) → Configured given (Ok settings)
    → AsksForSome given (λ settings. ComparedSo settings left right answer) → ComparedSo settings left right answer
compared_by given settings left right answer configured (again, too, said) =
    subst (λ (s : Settings). ComparedSo s left right answer) (config_is_one given again settings too configured) said

pub pair_page_agrees : AgreesWithCompare → PairPageAgreesWithCompare
pair_page_agrees agrees given left_name right_name left right old new before after page compared puts put answers done =
    elim (held_told given left_name right_name left right old new page puts) [
      | inl none ↦ absurd (never_put page none put)
      | inr (settings, configured, held) ↦ elim (compared_told given left right before after compared answers) [
        | inl none ↦ absurd (never_put compared none (inl done))
        | inr too ↦
            let found = compared_by given settings left right compared configured too in
            say_the_same settings left right (comparison_in held.0) found.0.comparison page compared (agrees settings left right held.0 found.0 held.1 found.1) held.2 found.2
      ]
    ]

-- ---- so does the text of where they differ

-- an accepted log can be held
held_log : (settings : Settings) (log : List ℕ) (items : List ItemValue) (summary : Summary) → IsAcceptedWith MESSAGE_LIMIT settings log items summary
    → (session : SessionValue) × KeepsOne MESSAGE_LIMIT settings log (Ok session)
held_log settings log items summary is =
    let meanings = is.outcome.0 in
    (session_of MESSAGE_LIMIT settings.rules (trace settings meanings) (summary_of MESSAGE_LIMIT settings log meanings), (meanings, (is.outcome.1.short, is.outcome.1.means), refl))

-- two logs compare in one way, which is that of what is held of them
one_comparison : AgreesWithCompare → (settings : Settings) (left right : List ℕ) (one other : Compared) → Compares MESSAGE_LIMIT settings left right (Ok one)
    → Compares MESSAGE_LIMIT settings left right (Ok other) → one.comparison ≡ other.comparison
one_comparison agrees settings left right one other is too =
    let of_left = held_log settings left one.left.meaning one.left.summary is.0.accepted in
    let of_right = held_log settings right one.right.meaning one.right.summary is.1.accepted in
    let held : KeptSessionsValue = record { left = of_left.0; right = of_right.0 } in
    sym (agrees settings left right held one (of_left.1, of_right.1) is) ∙ agrees settings left right held other (of_left.1, of_right.1) too

pub diff_agrees : AgreesWithCompare → DiffAgreesWithCompare
diff_agrees agrees given style left_name right_name left right old new before after told compared puts put answers done =
    elim (difference_told given style left_name right_name left right old new told puts) [
      | inl none ↦ absurd (never_put told none put)
      | inr (settings, configured, said) ↦ elim (compared_told given left right before after compared answers) [
        | inl none ↦ absurd (never_put compared none (inl done))
        | inr too ↦
            let found = compared_by given settings left right compared configured too in
            say_the_same settings left right said.0.comparison found.0.comparison told compared (one_comparison agrees settings left right said.0 found.0 said.1 found.1) said.2 found.2
      ]
    ]
