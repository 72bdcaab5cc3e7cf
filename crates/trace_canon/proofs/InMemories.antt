-- What each call over devices answers, where the log lies in memory and its text is gathered there.
use Rattle.std.proofs.Common.{◌≡◌, ◌≢◌, ◌⊎◌, inl, inr, ℕ, ◌<◌, false, List, [], ◌++◌, length, append-nil}
use Rattle.std.proofs.Common.{Result, Ok, Err, arith, refl, ap, sym, subst, ◌∙◌}
use Rattle.std.specs.Prelude.{MatchResult, IfErr}
use Rattle.isotp_receive.specs.Trace.{Entry}
use Rattle.uds_exchange.specs.Meaning.{ItemValue}
use Rattle.trace_canon.specs.declared.comparer.Compared.{Compared}
use Rattle.trace_canon.specs.declared.in_memory.CountedComparison.{CountedComparison}
use Rattle.trace_log.specs.declared.fault.CompareFault.{CompareFault}
use Rattle.trace_log.specs.declared.fault.CompareFault.TheVariants.{Left, Right}
use Rattle.trace_canon.specs.Compared.{Compares, fault_in}
use Rattle.trace_io.specs.Counted.{BytesInMemory}
use Rattle.trace_log.specs.declared.fault.Fault.{Fault}
use Rattle.trace_log.specs.declared.fault.Fault.TheVariants.{BadLine, Oversize, LogLimit, OutputLimit, Read, Write, Memory}
use Rattle.trace_log.specs.declared.summary.Summary.{Summary}
use Rattle.trace_log.specs.Answers.{Answers, TellsOutcome}
use Rattle.trace_canon.specs.Sessions.{GivesMeaning}
use Rattle.trace_log.specs.Failing.{FailedIf}
use Rattle.trace_canon.specs.InMemory.{IsOfMemory, HasBytes, IsRefused, IsUnread, IsCanonicalLogWith, IsSaidWith}
use Rattle.trace_canon.specs.InMemory.{NeedsMemoryForCanonicalLog, NeedsMemoryForExplanation, NeedsMemoryForMessageLines}
use Rattle.trace_canon.specs.InMemory.{MeansInMemory, IsExplanationWith}
use Rattle.trace_canon.specs.InMemory.{ComparesWithCounts, counted_comparison, fault_in_memory}
use Rattle.trace_log.specs.CanonicalLog.{canonical_log_of_lines}
use Rattle.trace_log.specs.Needing.{HasTextOf}
use Rattle.trace_log.specs.Refusal.{CountsAsBad}
use Rattle.trace_log.specs.Outcome.{Accepted, IsOutcome}
use Rattle.trace_canon.specs.MemoryNeeded.{NeedsMemoryToCollect, NeedsMemoryToOrder}
use Rattle.trace_canon.specs.MessagesScript.{messages_script}
use Rattle.trace_canon.specs.WrittenAtEnd.{LeavesAtEnd, TextOfLog, WritesAtEnd}
use Rattle.trace_log.specs.Settings.{Settings, without_rules}
use Rattle.trace_run.specs.Script.{Command, Needing, RefusalText, answers_counts, command, needs_none, says_no_refusal}
use Rattle.trace_run.specs.Script.{Script, said_of_lines, whole_of_lines}
use Rattle.trace_run.specs.Stopping.{CantBeRead}
use Rattle.trace_run.specs.AnswersAndWrites.{AnswersAndWrites, FailsToWrite}
use Rattle.trace_run.proofs.Promises.{unread_for}
use Rattle.trace_text.specs.declared.notation.Notation.{Notation}
use Rattle.trace_log.proofs.Promises.{all_begin}
use Rattle.trace_canon.proofs.GatheredTexts.{RanInMemory, known, reads_well}

-- ---- a canonical log

accepted_is : (limit : ℕ) (settings : Settings) (log : List ℕ) (accepted : Accepted) (text : List ℕ) (summary : Summary)
    → IsOutcome limit settings log (Ok accepted) → text ≡ accepted.text → accepted.summary ≡ summary
    → IsCanonicalLogWith limit settings log text summary
accepted_is limit settings log accepted text summary outcome text_is counted =
    subst (λ (s : Summary). IsCanonicalLogWith limit settings log text s) counted
    (subst (λ (t : List ℕ). IsCanonicalLogWith limit settings log t accepted.summary) (sym text_is) outcome)

pub canonical_in_memory : (limit : ℕ) (settings : Settings) (log text : List ℕ) (before after : BytesInMemory)
    (old taken : List ℕ) (given : ℕ) (answer : Result Summary Fault) → RanInMemory log text before after old taken answer
    → (answer ≡ Err Memory → NeedsMemoryToOrder limit settings log)
    → (answer ≡ Err Write → HasTextOf (canonical_log_of_lines limit settings) log)
    → Answers limit settings log given answer old taken
    → MatchResult answer (λ summary. IsCanonicalLogWith limit settings log text summary)
    (λ fault. IsRefused NeedsMemoryForCanonicalLog limit settings log (fault_in_memory fault))
canonical_in_memory limit settings log text before after old taken given (Ok summary) ran refused unwritten
    (accepted, outcome, counted, wrote) =
    accepted_is limit settings log accepted text summary outcome
    (sym ran.gathered ∙ wrote ∙ ap (λ xs. xs ++ accepted.text) ran.blank) counted
canonical_in_memory limit settings log text before after old taken given (Err fault) ran refused unwritten (is, left) =
    known (TellsOutcome limit settings log) (NeedsMemoryForCanonicalLog limit settings log) fault tt is
    (λ read. reads_well ran.read (ap Err read)) (λ why. inl (refused (ap Err why))) (λ why. inr (unwritten (ap Err why)))

-- ---- a text that is written at the end

-- the text of a log with these counts
abbrev IsTextWith : {V : Type 0} → TextOfLog V → List ℕ → List ℕ → Summary → Type 0
IsTextWith {V = V} of log text summary = (value : V) × of.gives log value summary × (text ≡ of.text value)

-- where a text is written at the end alone, a failed write leaves one that has bytes
left_some : {V : Type 0} (of : TextOfLog V) (log old new : List ℕ) (fault : Fault) → fault ≡ Write
    → LeavesAtEnd of log fault old new → HasBytes (IsTextWith of log)
left_some of log old new fault is left = by (subst (λ (f : Fault). LeavesAtEnd of log f old new) is left)
  where
    by : LeavesAtEnd of log Write old new → HasBytes (IsTextWith of log)
    by (value, summary, known_is, some, front) = (of.text value, summary, (value, known_is, refl), some)

pub written_in_memory : {V : Type 0} (of : TextOfLog V) (log text : List ℕ) (before after : BytesInMemory)
    (old taken : List ℕ) (answer : Result Summary Fault) → RanInMemory log text before after old taken answer
    → of.lacks log Memory → (answer ≡ Err Memory → of.reading.needs log) → WritesAtEnd of log answer old taken
    → MatchResult answer (λ summary. IsTextWith of log text summary) (λ fault. of.lacks log (fault_in_memory fault)
    × IsOfMemory (of.reading.needs log ⊎ HasBytes (IsTextWith of log)) (fault_in_memory fault))
written_in_memory of log text before after old taken (Ok summary) ran memory refused (value, is, wrote) =
    (value, is, sym ran.gathered ∙ wrote ∙ ap (λ xs. xs ++ of.text value) ran.blank)
written_in_memory of log text before after old taken (Err fault) ran memory refused (is, left) =
    known (of.lacks log) (of.reading.needs log ⊎ HasBytes (IsTextWith of log)) fault memory is
    (λ read. reads_well ran.read (ap Err read)) (λ why. inl (refused (ap Err why)))
    (λ why. inr (left_some of log old taken fault why left))

-- ---- a text that is said as the log comes

-- the script that says this of each frame and this at the end, and is not strict
abbrev pub lenient : (List Entry → Entry → List ℕ) → (List Entry → Summary → List ℕ) → Script
lenient of_frame at_the_end = record { strict = false; of_frame = of_frame; at_the_end = at_the_end }

-- nothing is said at the end of a log
abbrev says_no_end : List Entry → Summary → List ℕ
says_no_end T summary = []

-- a write failed only where something is said of the first lines, if nothing is said at the end
said_some : (of_frame : List Entry → Entry → List ℕ) (limit : ℕ) (settings : Settings) (log : List ℕ) (given : ℕ)
    (old new : List ℕ)
    → FailsToWrite (command (lenient of_frame says_no_end) says_no_refusal answers_counts needs_none)
    limit settings log given old new
    → HasTextOf (said_of_lines (lenient of_frame says_no_end) settings) log
said_some of_frame limit settings log given old new (inl (wrote, inl said)) = record {
  meanings = said.meanings;
  begins = record { lines = said.read.lines; later = said.read.later; parts = said.read.parts; means = said.read.means };
  some = said.some;
}
said_some of_frame limit settings log given old new (inl (wrote, inr ends)) = record {
  meanings = ends.meanings;
  begins = all_begin log ends.meanings ends.read.1;
  some =
      subst (λ (text : List ℕ). 0 < length text)
      (append-nil (said_of_lines (lenient of_frame says_no_end) settings ends.meanings)) ends.some;
}
said_some of_frame limit settings log given old new (inr refuses) = absurd (omega (arith, refuses.some))

-- the command of these texts, which is not strict
abbrev pub lenient_command : (List Entry → Entry → List ℕ) → (List Entry → Summary → List ℕ) → RefusalText → Needing → Command Summary
lenient_command of_frame at_the_end refusal needs = command (lenient of_frame at_the_end) refusal answers_counts needs

module _ (of_frame : List Entry → Entry → List ℕ) (at_the_end : List Entry → Summary → List ℕ) (refusal : RefusalText)
    (needs : Needing) (NeedsMemory : ℕ → Settings → List ℕ → Type 0) (limit : ℕ) (settings : Settings) where
  pub said_in_memory : (log text : List ℕ) (before after : BytesInMemory) (old taken : List ℕ) (given : ℕ)
      (answer : Result Summary Fault) → RanInMemory log text before after old taken answer
      → (answer ≡ Err Memory → NeedsMemory limit settings log)
      → (FailsToWrite (lenient_command of_frame at_the_end refusal needs) limit settings log given old taken → NeedsMemory limit settings log)
      → AnswersAndWrites (lenient_command of_frame at_the_end refusal needs) limit settings log given answer old taken
      → MatchResult answer (λ summary. IsSaidWith (lenient of_frame at_the_end) limit settings log text summary)
      (λ fault. IsUnread NeedsMemory limit settings log (fault_in_memory fault))
  said_in_memory log text before after old taken given (Ok summary) ran refused unwritten
      (whole, meanings, read, counted, wrote) = (
        meanings,
        read,
        cc counted,
        sym ran.gathered ∙ wrote
            ∙ ap (λ xs. xs ++ whole_of_lines (lenient of_frame at_the_end) limit settings log meanings) ran.blank,
      )
  said_in_memory log text before after old taken given (Err fault) ran refused unwritten is =
      known (CantBeRead settings log) (NeedsMemory limit settings log) fault tt
      (unread_for (lenient_command of_frame at_the_end refusal needs) refl
      (λ T summary none. absurd (cc none)) limit settings log given fault old taken is)
      (λ read. reads_well ran.read (ap Err read)) (λ why. refused (ap Err why))
      (λ why. unwritten
      (subst (λ (f : Fault). AnswersAndWrites (lenient_command of_frame at_the_end refusal needs) limit settings log given (Err f) old taken) why is))

-- the lines of messages
pub message_lines_in_memory : (notation : Notation) (limit : ℕ) (settings : Settings) (log : List ℕ) (given : ℕ)
    (old new : List ℕ)
    → FailsToWrite (command (messages_script notation limit settings.rules) says_no_refusal answers_counts needs_none)
    limit settings log given old new → NeedsMemoryForMessageLines notation limit settings log
message_lines_in_memory notation limit settings log given old new fails =
    inr (said_some ((messages_script notation limit settings.rules).of_frame) limit settings log given old new fails)

-- whether a refused place of a log counts, and why a log can't be read, is no matter of rules
bad_under : (settings : Settings) (log : List ℕ) (line column : ℕ) → CountsAsBad (without_rules settings) log line column
    → CountsAsBad settings log line column
bad_under settings log line column bad = record { place = bad.place; counts = bad.counts }

bad_without : (settings : Settings) (log : List ℕ) (line column : ℕ) → CountsAsBad settings log line column
    → CountsAsBad (without_rules settings) log line column
bad_without settings log line column bad = record { place = bad.place; counts = bad.counts }

unread_under : (settings : Settings) (log : List ℕ) (fault : Fault) → CantBeRead (without_rules settings) log fault
    → CantBeRead settings log fault
unread_under settings log (BadLine line column) is = bad_under settings log line column is
unread_under settings log (Oversize line announced) is = is
unread_under settings log LogLimit (none, long) =
    (λ line column bad. none line column (bad_without settings log line column bad), long)
unread_under settings log OutputLimit is = is
unread_under settings log Read is = is
unread_under settings log Write is = is
unread_under settings log Memory is = is

-- what explains a log, which has no rules
pub explanation_in_memory : (notation : Notation) (limit : ℕ) (settings : Settings) (log text : List ℕ)
    (answer : Result Summary Fault)
    → MatchResult answer (λ summary. IsExplanationWith notation limit settings log text summary)
    (λ fault. IsUnread NeedsMemoryForExplanation limit (without_rules settings) log (fault_in_memory fault))
    → MatchResult answer (λ summary. IsExplanationWith notation limit settings log text summary)
    (λ fault. IsUnread NeedsMemoryForExplanation limit settings log (fault_in_memory fault))
explanation_in_memory notation limit settings log text (Ok summary) is = is
explanation_in_memory notation limit settings log text (Err fault) (is, of_memory) =
    (unread_under settings log (fault_in_memory fault) is, of_memory)

-- ---- a meaning, and two of them

pub meaning_in_memory : (limit : ℕ) (settings : Settings) (log : List ℕ) (answer : Result (List ItemValue) Fault)
    → FailedIf Read answer 0 0 → IfErr answer (λ fault. fault ≢ Write)
    → (answer ≡ Err Memory → NeedsMemoryToCollect limit settings log) → GivesMeaning limit settings log answer
    → MeansInMemory limit settings log answer
meaning_in_memory limit settings log (Ok items) failed written refused is = is
meaning_in_memory limit settings log (Err fault) failed written refused is = (
  is,
  record {
    no_read = λ read. reads_well failed (ap Err read);
    no_write = written;
    memory = λ why. refused (ap Err why);
  },
)

-- what is answered of two logs in memory: how they compare, and their counts, or the fault
abbrev pub counted_in : Result Compared CompareFault → Result CountedComparison CompareFault
counted_in (Ok compared) = Ok (counted_comparison compared)
counted_in (Err fault) = Err fault

pub comparison_in_memory : (limit : ℕ) (settings : Settings) (left right : List ℕ) (answer : Result Compared CompareFault)
    → FailedIf (Left Read) answer 0 0 → FailedIf (Right Read) answer 0 0 → IfErr answer (λ fault. fault_in fault ≢ Write)
    → (answer ≡ Err (Left Memory) → NeedsMemoryToCollect limit settings left)
    → (answer ≡ Err (Right Memory) → NeedsMemoryToCollect limit settings right)
    → Compares limit settings left right answer → ComparesWithCounts limit settings left right (counted_in answer)
comparison_in_memory limit settings left right (Ok compared) left_failed right_failed written left_refused right_refused is =
    (compared, is, refl)
comparison_in_memory limit settings left right (Err (Left fault)) left_failed right_failed written left_refused
    right_refused is = (
      is,
      record {
        no_read = λ read. reads_well left_failed (ap (λ f. Err (Left f)) read);
        no_write = written;
        memory = λ why. left_refused (ap (λ f. Err (Left f)) why);
      },
    )
comparison_in_memory limit settings left right (Err (Right fault)) left_failed right_failed written left_refused
    right_refused is = (
      is,
      record {
        no_read = λ read. reads_well right_failed (ap (λ f. Err (Right f)) read);
        no_write = written;
        memory = λ why. right_refused (ap (λ f. Err (Right f)) why);
      },
    )
