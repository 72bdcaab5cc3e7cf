-- A run of the canonical script answers and writes the canonical log.
use Rattle.std.specs.Prelude.{OnOk, IfOk, if◌then◌else◌}
use Rattle.direction.specs.Dir.{Message}
use Rattle.trace_log.specs.CanonicalLog.{canonical_log, canonical_log_of_lines, early_text}
use Rattle.trace_log.specs.Laws.{IsCanonicalFor, Records, Certifies}
use Rattle.trace_log.specs.Settings.{AreSettings, Settings}
use Rattle.trace_log.proofs.Promises.{all_begin, written_is_canonical, written_of_recording, answer_certifies}
use Rattle.trace_log.proofs.Promises.{fitting_log_begins}
use Rattle.std.proofs.Common.{arith, ◌+◌, ◌≡◌, Bool, true, false, refl, subst, Option, Ok, Err, ◌≤◌, ◌<◌, ℕ, List, []}
use Rattle.std.proofs.Common.{◌++◌, length, ap, sym, ◌∙◌, append-nil, append_assoc, length-append, Result, inl, inr}
use Rattle.std.proofs.lemmas.Bool.{leb-true, leb-false}
use Rattle.can_log.specs.declared.frame.Stamped.{Stamped}
use Rattle.isotp_receive.specs.declared.TheConstants.{MESSAGE_LIMIT}
use Rattle.uds_rules.specs.Under.{under}
use Rattle.trace_log.specs.Messages.{messages_of_lines}
use Rattle.uds_exchange.specs.Meaning.{meaning, flattened}
use Rattle.trace_canon.specs.proving.CanonicalScript.{answers_canonical, canonical_script}
use Rattle.trace_canon.specs.MemoryNeeded.{CompletesHeld}
use Rattle.trace_log.specs.Needing.{HasTextOf}
use Rattle.trace_run.specs.Script.{Command, command, said_of_lines, says_no_refusal}
use Rattle.trace_run.specs.Script.{whole_of_lines}
use Rattle.trace_run.specs.AnswersAndWrites.{AnswersAndWrites, EndsWith, FailsToWrite, WritesSaid, WritesSaidAndRefusal, WritesFrontOfWhole, WritesSaidEagerly}
use Rattle.trace_canon.specs.proving.Measuring.{fits_within}
use Rattle.trace_canon.proofs.Answered.{answers_accepted, answers_output_limit}
use Rattle.trace_run.proofs.Promises.{front_of_whole}
use Rattle.trace_log.specs.declared.fault.Fault.{Fault}
use Rattle.trace_log.specs.declared.fault.Fault.TheVariants.{BadLine, Oversize, LogLimit, OutputLimit, Read, Write, Memory}
use Rattle.trace_run.specs.declared.machine.NoAnswer.TheVariants as no_answer
use Rattle.trace_log.specs.declared.summary.Summary.{Summary}
use Rattle.trace_log.specs.Answers.{Answers, WritesFront, WritesEagerly}
use Rattle.trace_log.specs.LinesRead.{WritesTextOfRead}
use Rattle.trace_log.specs.Refusal.{announces_within}
use Rattle.trace_log.specs.Summing.{summary_of}
use Rattle.trace_log.specs.Trace.{trace}
use Rattle.trace_canon.proofs.SaidCanonicalLogs.{early_is, said_whole, texts, whole_is, whole_said}

-- a front of what begins a text is no longer than that
no_longer : (whole said last text fits more : List ℕ) → whole ≡ said ++ last → whole ≡ fits → text ≡ fits ++ more → length said ≤ length text
no_longer whole said last text fits more parts is begins =
    let one : length whole ≡ length said + length last = ap length parts ∙ length-append said last in
    let two : length whole ≡ length fits = ap length is in
    let three : length text ≡ length fits + length more = ap length begins ∙ length-append fits more in
    omega (arith, one, two, three)

-- what is no shorter than something is something
some_of : (few many : ℕ) → 0 < few → few ≤ many → 0 < many
some_of few many some within = omega (arith, some, within)

-- the command of the canonical script, which says nothing of a refusal, and keeps held messages; the rules are those of
-- the settings
abbrev canonical_command : Settings → Command Summary
canonical_command settings =
    command (canonical_script settings.rules settings) says_no_refusal (answers_canonical settings.rules settings)
    (CompletesHeld MESSAGE_LIMIT settings.rules)

module _ (settings : Settings) (log : List ℕ) (given : ℕ) (old new : List ℕ) where
  writes_early : (why : Fault) → WritesSaid (canonical_script settings.rules settings) MESSAGE_LIMIT settings log given why old new
      → WritesTextOfRead (announces_within MESSAGE_LIMIT settings) (early_text MESSAGE_LIMIT settings) settings log given why old new
  writes_early why wrote =
      subst (λ text. WritesTextOfRead (announces_within MESSAGE_LIMIT settings) text settings log given why old new) (texts settings)
      wrote

  writes_refused : (why : Fault) → WritesSaidAndRefusal (canonical_command settings) MESSAGE_LIMIT settings log given why old new
      → WritesTextOfRead (announces_within MESSAGE_LIMIT settings) (early_text MESSAGE_LIMIT settings) settings log given why old new
  writes_refused why wrote = record {
    meanings = wrote.meanings;
    read = wrote.read;
    wrote =
        wrote.wrote ∙ ap (λ text. old ++ text)
        (append-nil (said_of_lines (canonical_script settings.rules settings) settings wrote.meanings) ∙ early_is settings wrote.meanings);
  }

  writes_front : (why : Fault) → WritesFrontOfWhole (canonical_script settings.rules settings) MESSAGE_LIMIT settings log given why old
      new → WritesFront MESSAGE_LIMIT settings log given why old new
  writes_front why wrote =
      let begins = fitting_log_begins MESSAGE_LIMIT settings (flattened (meaning (messages_of_lines MESSAGE_LIMIT settings wrote.meanings))) in
      record {
        meanings = wrote.meanings;
        read = wrote.read;
        written = wrote.written;
        missing = wrote.missing ++ begins.0;
        wrote = wrote.wrote;
        front =
            begins.1 ∙ ap (λ x. x ++ begins.0) (sym (whole_is settings log wrote.meanings) ∙ wrote.front)
            ∙ append_assoc wrote.written wrote.missing begins.0;
      }

  -- neither what is said of some lines nor all that is has more bytes than their canonical log
  said_within : (meanings : List (Option Stamped))
      → length (said_of_lines (canonical_script settings.rules settings) settings meanings)
      ≤ length (canonical_log_of_lines MESSAGE_LIMIT settings meanings)
  said_within meanings =
      let script = canonical_script settings.rules settings in
      let begins = fitting_log_begins MESSAGE_LIMIT settings (flattened (meaning (messages_of_lines MESSAGE_LIMIT settings meanings))) in
      no_longer (whole_of_lines script MESSAGE_LIMIT settings log meanings) (said_of_lines script settings meanings)
      (script.at_the_end (trace settings meanings) (summary_of MESSAGE_LIMIT settings log meanings))
      (canonical_log_of_lines MESSAGE_LIMIT settings meanings) _ begins.0 refl (whole_is settings log meanings) begins.1

  whole_within : (meanings : List (Option Stamped))
      → length (whole_of_lines (canonical_script settings.rules settings) MESSAGE_LIMIT settings log meanings)
      ≤ length (canonical_log_of_lines MESSAGE_LIMIT settings meanings)
  whole_within meanings =
      let whole = whole_of_lines (canonical_script settings.rules settings) MESSAGE_LIMIT settings log meanings in
      let begins = fitting_log_begins MESSAGE_LIMIT settings (flattened (meaning (messages_of_lines MESSAGE_LIMIT settings meanings))) in
      no_longer whole whole [] (canonical_log_of_lines MESSAGE_LIMIT settings meanings) _ begins.0 (sym (append-nil whole))
      (whole_is settings log meanings) begins.1

  canonical_some : FailsToWrite (canonical_command settings) MESSAGE_LIMIT settings log given old new
      → HasTextOf (canonical_log_of_lines MESSAGE_LIMIT settings) log
  canonical_some (inl (wrote, inl said)) = record {
    meanings = said.meanings;
    begins = record { lines = said.read.lines; later = said.read.later; parts = said.read.parts; means = said.read.means };
    some = some_of _ _ said.some (said_within said.meanings);
  }
  canonical_some (inl (wrote, inr ends)) = record {
    meanings = ends.meanings;
    begins = all_begin log ends.meanings ends.read.means;
    some = some_of _ _ ends.some (whole_within ends.meanings);
  }
  canonical_some (inr refuses) = absurd (omega (arith, refuses.some))

  pub writes_eagerly_said : WritesSaidEagerly (canonical_script settings.rules settings) MESSAGE_LIMIT settings log given old new
      → WritesEagerly MESSAGE_LIMIT settings log given old new
  writes_eagerly_said eager =
      record {
        meanings = eager.meanings;
        read = eager.read;
        more = eager.more;
        wrote = eager.wrote ∙ ap (λ text. old ++ (text ++ eager.more)) (early_is settings eager.meanings);
      }

  ends_well : (summary : Summary) → EndsWith (canonical_command settings) MESSAGE_LIMIT settings log given (Ok summary) old new
      → Answers MESSAGE_LIMIT settings log given (Ok summary) old new
  ends_well summary (all, meanings, read, answer, wrote) =
      by (fits_within settings (meaning (messages_of_lines MESSAGE_LIMIT settings meanings))) refl
    where
      by : (b : Bool) → fits_within settings (meaning (messages_of_lines MESSAGE_LIMIT settings meanings)) ≡ b
          → Answers MESSAGE_LIMIT settings log given (Ok summary) old new
      by false is =
          let same : Ok summary ≡ Err no_answer.OutputLimit =
          answer ∙ ap (λ (b : Bool). if b then Ok (summary_of MESSAGE_LIMIT settings log meanings) else Err no_answer.OutputLimit) is in
          absurd (cc same)
      by true is =
          let same : Ok summary ≡ Ok (summary_of MESSAGE_LIMIT settings log meanings) =
          answer ∙ ap (λ (b : Bool). if b then Ok (summary_of MESSAGE_LIMIT settings log meanings) else Err no_answer.OutputLimit) is in
          let counted : summary ≡ summary_of MESSAGE_LIMIT settings log meanings = cc same in
          let fits = leb-true _ _ is in
          subst (λ s. Answers MESSAGE_LIMIT settings log given (Ok s) old new) (sym counted)
          (answers_accepted MESSAGE_LIMIT settings log given meanings old new read fits
          (wrote ∙ ap (λ x. old ++ x) (whole_said settings log meanings ∙ said_whole settings
          (flattened (meaning (messages_of_lines MESSAGE_LIMIT settings meanings))) fits)))

  ends_over : EndsWith (canonical_command settings) MESSAGE_LIMIT settings log given (Err no_answer.OutputLimit) old new
      → Answers MESSAGE_LIMIT settings log given (Err OutputLimit) old new
  ends_over (all, meanings, read, answer, wrote) = by (fits_within settings (meaning (messages_of_lines MESSAGE_LIMIT settings meanings))) refl
    where
      by : (b : Bool) → fits_within settings (meaning (messages_of_lines MESSAGE_LIMIT settings meanings)) ≡ b
          → Answers MESSAGE_LIMIT settings log given (Err OutputLimit) old new
      by true is =
          let same : Err no_answer.OutputLimit ≡ Ok (summary_of MESSAGE_LIMIT settings log meanings) =
          answer ∙ ap (λ (b : Bool). if b then Ok (summary_of MESSAGE_LIMIT settings log meanings) else Err no_answer.OutputLimit) is in
          absurd (cc same)
      by false is =
          answers_output_limit MESSAGE_LIMIT settings log given meanings old new read all (leb-false _ _ is)
          (wrote ∙ ap (λ x. old ++ x) (whole_is settings log meanings))

-- writing fails only where the lines read have a canonical line
pub unwritten_some : (settings : Settings) (log : List ℕ) (given : ℕ) (result : Result Summary Fault) (old new : List ℕ) → result ≡ Err Write
    → AnswersAndWrites (canonical_command settings) MESSAGE_LIMIT settings log given result old new
    → HasTextOf (canonical_log_of_lines MESSAGE_LIMIT settings) log
unwritten_some settings log given result old new wrong said =
    canonical_some settings log given old new
    (subst (λ (r : Result Summary Fault). AnswersAndWrites (canonical_command settings) MESSAGE_LIMIT settings log given r old new) wrong said)

-- what a run of the command answers and writes is the canonical log
pub canonical_is_the_same : (settings : Settings) (log : List ℕ) (given : ℕ) (result : Result Summary Fault)
    (old new : List ℕ) → AnswersAndWrites (canonical_command settings) MESSAGE_LIMIT settings log given result old new
    → WritesSaidEagerly (canonical_script settings.rules settings) MESSAGE_LIMIT settings log given old new
    → Answers MESSAGE_LIMIT settings log given result old new
canonical_is_the_same settings log given (Ok summary) old new ends eager = ends_well settings log given old new summary ends
canonical_is_the_same settings log given (Err OutputLimit) old new ends eager = ends_over settings log given old new ends
canonical_is_the_same settings log given (Err (BadLine line column)) old new (why, wrote) eager =
    (why, writes_refused settings log given old new (BadLine line column) wrote)
canonical_is_the_same settings log given (Err (Oversize line announced)) old new (why, wrote) eager =
    (why, writes_early settings log given old new (Oversize line announced) wrote)
canonical_is_the_same settings log given (Err LogLimit) old new (why, wrote) eager = (why, writes_refused settings log given old new LogLimit wrote)
canonical_is_the_same settings log given (Err Read) old new wrote eager = (tt, writes_early settings log given old new Read wrote)
canonical_is_the_same settings log given (Err Write) old new (inl (wrote, why)) eager =
    (tt, (writes_front settings log given old new Write wrote, writes_eagerly_said settings log given old new eager))
canonical_is_the_same settings log given (Err Write) old new (inr refuses) eager = absurd (omega (arith, refuses.some))
canonical_is_the_same settings log given (Err Memory) old new wrote eager = (
  tt,
  (
    writes_front settings log given old new Memory
        (front_of_whole (canonical_script settings.rules settings) MESSAGE_LIMIT settings log given Memory old new wrote),
    writes_eagerly_said settings log given old new eager,
  ),
)

-- ---- the canonical log again

-- what was written is canonical
pub canonical_again : (settings : Settings) (log : List ℕ) (given : ℕ) (result : Result Summary Fault) (old new : List ℕ) → AreSettings settings
    → Answers MESSAGE_LIMIT settings log given result old new
    → OnOk result ((text : List ℕ) → new ≡ old ++ text → IsCanonicalFor MESSAGE_LIMIT settings log text)
canonical_again settings log given (Ok summary) old new are answers = λ text wrote.
    written_is_canonical MESSAGE_LIMIT settings log given old new text summary (record { least = omega arith; most = omega arith }) are answers wrote
canonical_again settings log given (Err why) old new are answers = tt

-- for a recording of messages the canonical log of their meaning under the rules was written
pub recording_again : (settings : Settings) (log : List ℕ) (given : ℕ) (result : Result Summary Fault) (old new : List ℕ)
    → Answers MESSAGE_LIMIT settings log given result old new
    → OnOk result ((M : List Message) → Records MESSAGE_LIMIT settings log M → new ≡ old ++ canonical_log MESSAGE_LIMIT
    settings (flattened (meaning (under settings.rules M))))
recording_again settings log given (Ok summary) old new answers = λ M records.
    written_of_recording MESSAGE_LIMIT settings log given old new summary M answers records
recording_again settings log given (Err why) old new answers = tt

-- the summary certifies
pub answer_is_certificate : (settings : Settings) (log : List ℕ) (given : ℕ) (result : Result Summary Fault) (old new : List ℕ)
    → Answers MESSAGE_LIMIT settings log given result old new → IfOk result (λ summary. Certifies MESSAGE_LIMIT settings log summary)
answer_is_certificate settings log given (Ok summary) old new answers =
    answer_certifies MESSAGE_LIMIT settings log given old new summary (omega arith) answers
answer_is_certificate settings log given (Err why) old new answers = tt
