-- A front of what is said of the lines that were read, or more than was said before.
use Rattle.std.proofs.Common.{◌-◌, ◌≡◌, ℕ, ◌+◌, ◌<◌, ◌≤◌, Bool, true, false, List, [], ◌∷◌, ◌++◌, length, arith, refl, ap}
use Rattle.std.proofs.Common.{sym, subst, ◌∙◌, Option, inl, inr, append-nil, append_assoc, length-append}
use Rattle.std.specs.Prelude.{min}
use Rattle.std.proofs.Math.Nat.{min-le_left}
use Rattle.can_log.specs.declared.frame.Stamped.{Stamped}
use Rattle.isotp_receive.specs.declared.TheConstants.{MESSAGE_LIMIT}
use Rattle.trace_io.specs.Written.{HasFront}
use Rattle.trace_io.specs.declared.device.Target.{Ghosts}
use Rattle.trace_log.specs.declared.fault.Fault.{Fault}
use Rattle.trace_log.specs.declared.fault.Fault.TheVariants as fault
use Rattle.trace_run.specs.declared.sheet.Sheet.{Sheet}
use Rattle.trace_run.specs.proving.Carrying.{HasSaid}
use Rattle.trace_run.specs.proving.Ending.{EndsOn}
use Rattle.trace_log.specs.LinesRead.{counts_last, AreGiven, AreLinesRead, AreReadBefore, WritesTextOfRead}
use Rattle.trace_log.specs.Settings.{Settings}
use Rattle.trace_log.specs.Summing.{summary_of}
use Rattle.trace_run.specs.Script.{Command, Script, said_after, said_of_frames, said_of_lines, refusal_of_lines, said_and_refusal_of_lines}
use Rattle.trace_run.specs.Stopping.{passing, IsUnreadFor, is_told}
use Rattle.trace_run.specs.AnswersAndWrites.{WritesFrontOfSaid, HasSomeToSay, FailsToWrite, WritesFrontOfWhole, WritesSaidEagerly}
use Rattle.trace_log.specs.Trace.{trace, trace_from}
use Rattle.std.specs.List.{AllByRecursion}
use Rattle.can_log.specs.Scanning.{Standing}
use Rattle.can_log.specs.WholeLog.{StandsAfter}
use Rattle.trace_log.specs.Answers.{piece_length}
use Rattle.trace_log.specs.proving.Announcing.{AnnouncesWithin}
use Rattle.trace_log.proofs.Promises.{read_begins, lines_read_are_there, stands_read, read_more, HaveCome, writes_front}
use Rattle.trace_log.proofs.Promises.{Begins, begins_again, trace_from-append}
use Rattle.trace_run.proofs.ToldFrames.{said-append}
use Rattle.trace_run.proofs.StoppedLines.{all_pass}

-- what is said of some lines begins what is said of more
said_grows : (script : Script) (settings : Settings) (meanings more : List (Option Stamped))
    → Begins (said_of_lines script settings meanings) (said_of_lines script settings (meanings ++ more))
unfolding trace_from
said_grows script settings meanings more =
    let T = trace settings meanings in
    let rest = trace_from settings (1 + length meanings) more in (
      said_after script.of_frame T rest,
      ap (said_of_frames script.of_frame) (trace_from-append settings 1 meanings more) ∙ said-append script.of_frame [] T rest,
    )

-- lines that were read, whatever the fault, had come
had_come : (passes : Option Stamped → Bool) (b : Bool) (count : ℕ) (log : List ℕ) (meanings : List (Option Stamped))
    → AreLinesRead passes b count log meanings → HaveCome passes true count log meanings
had_come passes b count log meanings read = record {
  lines = read.lines;
  later = read.later;
  parts = read.parts;
  means = read.means;
  each = read.each;
  given = either read.given;
}
  where
    either : AreGiven b count log read.lines → AreGiven true count log read.lines
    either (inl few) = inl few
    either (inr all) = inr (refl, all.1)

-- ---- of a script

module _ (script : Script) (limit : ℕ) (settings : Settings) (log : List ℕ) (given : ℕ) where
  -- a front of what is said of frames is one of all that is said
  pub front_of_whole : (why : Fault) (old new : List ℕ) → WritesFrontOfSaid script limit settings log given why old new
      → WritesFrontOfWhole script limit settings log given why old new
  front_of_whole why old new wrote =
      let end = script.at_the_end (trace settings wrote.meanings) (summary_of limit settings log wrote.meanings) in
      record {
        meanings = wrote.meanings;
        read = wrote.read;
        written = wrote.written;
        missing = wrote.missing ++ end;
        wrote = wrote.wrote;
        front = ap (λ x. x ++ end) wrote.front ∙ append_assoc wrote.written wrote.missing end;
      }

  -- a front of what is said of lines that had come was written
  pub writes_front_of_said : (why : Fault) (meanings : List (Option Stamped)) (old new : List ℕ) → counts_last why ≡ true
      → HaveCome (passing script.strict limit settings) true (min given settings.max_bytes) log meanings
      → HasFront old (said_of_lines script settings meanings) new
      → WritesFrontOfSaid script limit settings log given why old new
  writes_front_of_said why meanings old new last come front =
      let text = said_of_lines script settings in
      let passes = passing script.strict limit settings in
      writes_front passes text settings log given meanings old new why front.front
      (subst (λ b. HaveCome passes b (min given settings.max_bytes) log meanings) (sym last) come) front.wrote
      (λ more. begins_again front.front (text meanings) (text (meanings ++ more)) (front.rest, front.parts)
      (said_grows script settings meanings more))

  -- what is said of the lines read before a failed write is something, where what is said of lines that had come is
  pub said_some : (meanings : List (Option Stamped))
      → HaveCome (passing script.strict limit settings) true (min given settings.max_bytes) log meanings
      → 0 < length (said_of_lines script settings meanings) → HasSomeToSay script limit settings log given
  said_some meanings come some =
      let count = min given settings.max_bytes in
      let passes = passing script.strict limit settings in
      let read = lines_read_are_there passes true count log in
      let longer = read_begins passes true count log read.0 meanings come.lines come.later
      read.1 come.parts come.means come.each come.given in
      let grows = said_grows script settings meanings longer.0 in
      let all = ap (said_of_lines script settings) longer.1 ∙ grows.1 in
      let long = ap length all ∙ length-append (said_of_lines script settings meanings) grows.0 in
      record { meanings = read.0; read = read.1; some = omega arith }

-- ---- of a command

module _ {A : Type 0} (of : Command A) (limit : ℕ) (settings : Settings) (log : List ℕ) (given : ℕ) where
  -- only a front of the text of the lines that were read was written
  pub front_of_read : (why : Fault) (meanings : List (Option Stamped)) (old new : List ℕ)
      → WritesTextOfRead (passing of.script.strict limit settings) (said_of_lines of.script settings) settings log given why
      [] (said_of_lines of.script settings meanings)
      → HasFront old (said_of_lines of.script settings meanings) new
      → 0 < length (said_of_lines of.script settings meanings) → FailsToWrite of limit settings log given old new
  front_of_read why meanings old new read front some =
      let script = of.script in
      let count = min given settings.max_bytes in
      let come = had_come (passing script.strict limit settings) (counts_last why) count log read.meanings read.read in
      inl (
        front_of_whole script limit settings log given fault.Write old new
            (writes_front_of_said script limit settings log given fault.Write read.meanings old new refl come
            (subst (λ text. HasFront old text new) read.wrote front)),
        inl (said_some script limit settings log given read.meanings come
            (subst (λ (text : List ℕ). 0 < length text) read.wrote some)),
      )

  -- only a front of what is said of a log that is refused was written
  pub front_of_refused : (why : Fault) (meanings : List (Option Stamped)) (old new : List ℕ)
      → is_told why ≡ true → IsUnreadFor of.script.strict limit settings log why
      → AreReadBefore (passing of.script.strict limit settings) settings log given why meanings
      → HasFront old (said_and_refusal_of_lines of.script of.refusal limit settings why meanings) new
      → 0 < length (said_and_refusal_of_lines of.script of.refusal limit settings why meanings)
      → FailsToWrite of limit settings log given old new
  front_of_refused why meanings old new told unread read front some =
      by (refusal_of_lines of.refusal limit settings why meanings) refl
    where
      by : (text : List ℕ) → refusal_of_lines of.refusal limit settings why meanings ≡ text
          → FailsToWrite of limit settings log given old new
      by [] none =
          let lines = said_of_lines of.script settings meanings in
          let same : said_and_refusal_of_lines of.script of.refusal limit settings why meanings ≡ lines =
          ap (λ x. lines ++ x) none ∙ append-nil lines in
          front_of_read why meanings old new (record { meanings = meanings; read = read; wrote = refl })
          (subst (λ text. HasFront old text new) same front) (subst (λ (text : List ℕ). 0 < length text) same some)
      by (b ∷ rest) is = inr (record {
        why = why;
        told = told;
        refused = unread;
        meanings = meanings;
        read = read;
        some = subst (λ (text : List ℕ). 0 < length text) (sym is) (omega arith);
        front = front;
      })

-- ---- only more is written

-- what was written before stays
pub only_more : {W : Type 0} {target : Ghosts W} {start now : W} {said : List ℕ} {sheet : Sheet}
    → HasSaid target start said sheet now
    → Begins (target.taken start) (target.taken now)
only_more carries = (carries.took.bytes, carries.took.grown)

-- also where a run ends with a fault
pub more_at_fault : {W : Type 0} {target : Ghosts W} (name answer : Fault) (start : W) (said : List ℕ) (new : W)
    → EndsOn target name start said answer new
    → Begins (target.taken start) (target.taken new)
more_at_fault name answer start said new (inl well) = only_more well.1
more_at_fault name answer start said new (inr wrong) = only_more wrong.1

-- what was said of the lines that had ended before the last piece begins what was written
pub writes_said_eagerly : (script : Script) (settings : Settings) (log : List ℕ) (given : ℕ) (front rest : List ℕ)
    (meanings : List (Option Stamped)) (standing : Standing) (old mid new : List ℕ)
    → StandsAfter front meanings standing → log ≡ front ++ rest → given ≤ length front + piece_length
    → (script.strict ≡ true → AllByRecursion AnnouncesWithin (trace settings meanings))
    → mid ≡ old ++ said_of_lines script settings meanings → Begins mid new
    → WritesSaidEagerly script MESSAGE_LIMIT settings log given old new
writes_said_eagerly script settings log given front rest meanings standing old mid new stands parts few within wrote more =
    let passes = passing script.strict MESSAGE_LIMIT settings in
    let count = min (given - piece_length) settings.max_bytes in
    let read = lines_read_are_there passes false count log in
    let low = min-le_left (given - piece_length) settings.max_bytes in
    let all = stands_read passes false (length front) log front rest meanings standing stands parts refl
    (all_pass script.strict settings meanings within) (λ yes short. absurd (cc)) in
    let later = read_more passes false count (length front) log read.0 meanings (omega arith) read.1 all in
    let grows = said_grows script settings read.0 later.0 in
    record {
      meanings = read.0;
      read = read.1;
      more = grows.0 ++ more.0;
      wrote =
          more.1 ∙ ap (λ x. x ++ more.0)
          (wrote ∙ ap (λ m. old ++ said_of_lines script settings m) later.1 ∙ ap (λ x. old ++ x) grows.1)
          ∙ append_assoc old (said_of_lines script settings read.0 ++ grows.0) more.0
          ∙ ap (λ x. old ++ x) (append_assoc (said_of_lines script settings read.0) grows.0 more.0);
    }
