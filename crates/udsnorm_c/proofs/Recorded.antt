-- Where an answer is clean, the log is a recording of its messages, with a frame of each side.
use Rattle.std.proofs.Common.{◌≡◌, ◌<◌, ℕ, Bool, true, false, List, Option, Some, None, Result, Ok, Err, arith, refl, ap, sym, subst, ◌∙◌}
use Rattle.can_log.specs.Log.{LogMeans}
use Rattle.can_log.specs.declared.frame.Stamped.{Stamped}
use Rattle.can_log.proofs.Promises.{log_means_at_most_one}
use Rattle.direction.specs.declared.Dir.{Dir}
use Rattle.isotp_receive.specs.declared.TheConstants.{MESSAGE_LIMIT}
use Rattle.trace_canon.specs.InMemory.{IsCanonicalLogWith, IsExplanationWith, IsListWith, AreMessageLinesWith, IsRefused, IsUnread}
use Rattle.trace_canon.specs.InMemory.{NeedsMemoryForCanonicalLog, NeedsMemoryForExplanation, NeedsMemoryForList, NeedsMemoryForMessageLines}
use Rattle.trace_canon.specs.Sessions.{IsAcceptedWith}
use Rattle.trace_log.specs.Laws.{Certifies, CleanLogHasBothSides}
use Rattle.trace_log.specs.Outcome.{IsOutcome}
use Rattle.trace_log.specs.Settings.{Settings, without_rules}
use Rattle.trace_log.specs.Summing.{frames_of, is_clean, summary_of}
use Rattle.trace_log.specs.Trace.{trace}
use Rattle.trace_log.specs.declared.fault.Fault.{Fault}
use Rattle.trace_log.specs.declared.summary.Summary.{Summary}
use Rattle.trace_log.proofs.Promises.{certificate_knows_no_rules, clean_log_is_recording, clean_summary_is_certificate}
use Rattle.trace_report.specs.Front.{page_title}
use Rattle.trace_report.specs.InMemory.{IsPageWith, NeedsMemoryForPage}
use Rattle.trace_text.specs.declared.item_style.ItemStyle.{ItemStyle}
use Rattle.trace_text.specs.declared.notation.Notation.{Notation}
use Rattle.uds_exchange.specs.Meaning.{ItemValue}
use Rattle.udsnorm_c.specs.declared.answer.UdsnormAnswer.{UdsnormAnswer}
use Rattle.udsnorm_c.specs.Answered.{Styled, TextAnswers, flag, status_alone}
use Rattle.udsnorm_c.specs.Laws.{CleanExplainIsRecorded, CleanListIsRecorded, CleanMessagesAreRecorded, CleanNormaliseIsRecorded, CleanReportIsRecorded, IsRecorded}
use Rattle.udsnorm_c.specs.Spelled.{list_style, notation_of}
use Rattle.udsnorm_c.proofs.PlainTraces.{plain_trace}
use Rattle.udsnorm_c.proofs.Unput.{never_clean, of_fault, of_no_config, so_has}

-- these are the counts of the log
abbrev pub AreCountsOf : Settings → List ℕ → Summary → Type 0
AreCountsOf settings log summary =
    (meanings : List (Option Stamped)) × LogMeans log meanings × (summary ≡ summary_of MESSAGE_LIMIT settings log meanings)

-- a log has its counts in one way
pub one_count : (settings : Settings) (log : List ℕ) (one other : Summary) → AreCountsOf settings log one → AreCountsOf settings log other → one ≡ other
one_count settings log one other (meanings, means, counted) (again, read, same) =
    counted ∙ ap (summary_of MESSAGE_LIMIT settings log) (log_means_at_most_one log meanings again means read) ∙ sym same

-- those of an accepted log
pub of_accepted : (settings : Settings) (log : List ℕ) (items : List ItemValue) (summary : Summary) → IsAcceptedWith MESSAGE_LIMIT settings log items summary
    → AreCountsOf settings log summary
of_accepted settings log items summary is = (is.outcome.0, is.outcome.1.means, sym is.counted ∙ is.outcome.2.counted)

of_canonical : (settings : Settings) (log text : List ℕ) (summary : Summary) → IsCanonicalLogWith MESSAGE_LIMIT settings log text summary → AreCountsOf settings log summary
of_canonical settings log text summary (meanings, whole, accepted) = (meanings, whole.means, accepted.counted)

certifies : (settings : Settings) (log : List ℕ) (meanings : List (Option Stamped)) → LogMeans log meanings
    → Certifies MESSAGE_LIMIT settings log (summary_of MESSAGE_LIMIT settings log meanings)
certifies settings log meanings means none_dropped no_end none_open =
    let certificate = clean_summary_is_certificate MESSAGE_LIMIT settings log meanings (omega arith) none_dropped no_end none_open in
    record { meanings = meanings; means = means; recording = certificate.0; own_frames = certificate.1; once = certificate.2 }

pub flag_set : (b : Bool) → flag b ≡ 1 → b ≡ true
flag_set true set = refl
flag_set false set = absurd (omega (arith, set))

module _ (has_both_sides : CleanLogHasBothSides) where
  pub recorded : (settings : Settings) (log : List ℕ) (summary : Summary) → AreCountsOf settings log summary → is_clean summary ≡ true → IsRecorded settings log
  recorded settings log summary (meanings, means, counted) clean =
      let counts = summary_of MESSAGE_LIMIT settings log meanings in
      let is : is_clean counts ≡ true = subst (λ (s : Summary). is_clean s ≡ true) counted clean in
      let certified = clean_log_is_recording MESSAGE_LIMIT settings log counts (certifies settings log meanings means) is in
      record {
        certified = certified;
        both_sides = λ d.
            subst (λ (m : List (Option Stamped)). 0 < frames_of d (trace settings m)) (log_means_at_most_one log meanings certified.meanings means certified.means)
            (has_both_sides MESSAGE_LIMIT settings log meanings d is);
      }

  -- the same by the counts of the log without rules
  recorded_plain : (settings : Settings) (log : List ℕ) (summary : Summary) → AreCountsOf (without_rules settings) log summary → is_clean summary ≡ true → IsRecorded settings log
  recorded_plain settings log summary (meanings, means, counted) clean =
      let plain = without_rules settings in
      let counts = summary_of MESSAGE_LIMIT plain log meanings in
      let is : is_clean counts ≡ true = subst (λ (s : Summary). is_clean s ≡ true) counted clean in
      let certified = clean_log_is_recording MESSAGE_LIMIT settings log counts (certificate_knows_no_rules MESSAGE_LIMIT settings log counts (certifies plain log meanings means)) is in
      record {
        certified = certified;
        both_sides = λ d.
            subst (λ (m : List (Option Stamped)). 0 < frames_of d (trace settings m)) (log_means_at_most_one log meanings certified.meanings means certified.means)
            (subst (λ entries. 0 < frames_of d entries) (plain_trace settings 1 meanings) (has_both_sides MESSAGE_LIMIT plain log meanings d is));
      }

  -- where a text is put whose clean counts tell a recording
  clean_text : (settings : Settings) (log : List ℕ) (IsTextWith : List ℕ → Summary → Type 0) (IsFault : Fault → Type 0) (old new : List ℕ) (answer : UdsnormAnswer)
      → ((text : List ℕ) (summary : Summary) → IsTextWith text summary → is_clean summary ≡ true → IsRecorded settings log)
      → TextAnswers IsTextWith IsFault old new answer → answer.clean ≡ 1 → IsRecorded settings log
  clean_text settings log IsTextWith IsFault old new answer records (Ok counted, is, (front, says)) clean =
      records counted.text.items counted.summary is (flag_set (is_clean counted.summary) (sym (ap (λ (a : UdsnormAnswer). a.clean) says) ∙ clean))
  clean_text settings log IsTextWith IsFault old new answer records (Err fault, why, (same, says)) clean =
      absurd (never_clean answer (so_has answer _ says (of_fault fault)) clean)

  -- in some style, where there is one
  clean_styled : (settings : Settings) (log : List ℕ) (A : Type 0) (IsTextWith : A → List ℕ → Summary → Type 0) (IsFault : A → Fault → Type 0) (old new : List ℕ) (answer : UdsnormAnswer)
      → ((style : A) (text : List ℕ) (summary : Summary) → IsTextWith style text summary → is_clean summary ≡ true → IsRecorded settings log) → (found : Option A)
      → Styled found (λ style. TextAnswers (IsTextWith style) (IsFault style) old new answer) old new answer → answer.clean ≡ 1 → IsRecorded settings log
  clean_styled settings log A IsTextWith IsFault old new answer records None (same, says) clean = absurd (never_clean answer (so_has answer (status_alone 10) says refl) clean)
  clean_styled settings log A IsTextWith IsFault old new answer records (Some style) told clean =
      clean_text settings log (IsTextWith style) (IsFault style) old new answer (records style) told clean

  pub clean_normalise : CleanNormaliseIsRecorded
  clean_normalise given log old new answer (Ok settings, configured, told) clean = (
    settings,
    configured,
    clean_text settings log (IsCanonicalLogWith MESSAGE_LIMIT settings log) (IsRefused NeedsMemoryForCanonicalLog MESSAGE_LIMIT settings log) old new answer
        (λ text summary is. recorded settings log summary (of_canonical settings log text summary is)) told clean,
  )
  clean_normalise given log old new answer (Err why, configured, put) clean = absurd (never_clean answer (of_no_config why old new answer put) clean)

  pub clean_list : CleanListIsRecorded
  clean_list style given log old new answer (Ok settings, configured, told) clean = (
    settings,
    configured,
    clean_styled settings log ItemStyle (λ style. IsListWith style MESSAGE_LIMIT settings log) (λ style. IsRefused (NeedsMemoryForList style) MESSAGE_LIMIT settings log) old new answer
        (λ style text summary list. recorded settings log summary (of_accepted settings log list.0 summary list.1)) (list_style style) told clean,
  )
  clean_list style given log old new answer (Err why, configured, put) clean = absurd (never_clean answer (of_no_config why old new answer put) clean)

  pub clean_messages : CleanMessagesAreRecorded
  clean_messages style given log old new answer (Ok settings, configured, told) clean = (
    settings,
    configured,
    clean_styled settings log Notation (λ notation. AreMessageLinesWith notation MESSAGE_LIMIT settings log) (λ notation. IsUnread (NeedsMemoryForMessageLines notation) MESSAGE_LIMIT settings log) old new answer
        (λ notation text summary placing. recorded settings log summary (placing.0, placing.1.1, placing.2)) (notation_of style) told clean,
  )
  clean_messages style given log old new answer (Err why, configured, put) clean = absurd (never_clean answer (of_no_config why old new answer put) clean)

  pub clean_explain : CleanExplainIsRecorded
  clean_explain style given log old new answer (Ok settings, configured, told) clean = (
    settings,
    configured,
    clean_styled settings log Notation (λ notation. IsExplanationWith notation MESSAGE_LIMIT settings log) (λ notation. IsUnread NeedsMemoryForExplanation MESSAGE_LIMIT settings log) old new answer
        (λ notation text summary explanation. recorded_plain settings log summary (explanation.0, explanation.1.1, explanation.2)) (notation_of style) told clean,
  )
  clean_explain style given log old new answer (Err why, configured, put) clean = absurd (never_clean answer (of_no_config why old new answer put) clean)

  pub clean_report : CleanReportIsRecorded
  clean_report name given log old new answer (Ok settings, configured, (style, told)) clean = (
    settings,
    configured,
    clean_text settings log (IsPageWith (page_title style name settings) MESSAGE_LIMIT settings log) (IsUnread NeedsMemoryForPage MESSAGE_LIMIT settings log) old new answer
        (λ text summary page. recorded settings log summary (page.0, page.1.1, page.2)) told clean,
  )
  clean_report name given log old new answer (Err why, configured, put) clean = absurd (never_clean answer (of_no_config why old new answer put) clean)
