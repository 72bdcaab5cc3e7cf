-- What a run over a script that is not strict answers, and never answers.
use Rattle.std.proofs.Common.{◌⊎◌, inl, inr, ◌≢◌, ℕ, Bool, List, Result, Ok, Err, false, ◌≡◌, arith, subst}
use Rattle.std.specs.Result.{IfOk, IfErr}
use Rattle.isotp_receive.specs.declared.TheConstants.{MESSAGE_LIMIT}
use Rattle.isotp_receive.specs.Trace.{Entry}
use Rattle.trace_log.specs.Laws.{Certifies}
use Rattle.trace_log.specs.Needing.{HasFrame, IsKeptOrMasked, NeedsMemoryToReceive}
use Rattle.trace_log.specs.Settings.{Settings}
use Rattle.trace_log.specs.Summing.{summary_of}
use Rattle.trace_run.specs.Script.{Command}
use Rattle.trace_run.specs.Stopping.{CantBeRead, IsReadToEnd, IsUnreadFor, StopsNothingWithin}
use Rattle.trace_run.specs.AnswersAndWrites.{AnswersAndWrites}
use Rattle.trace_log.specs.ReadAs.{IsReadAs}
use Rattle.trace_log.specs.Answers.{ReadsWhile}
use Rattle.trace_log.specs.Refusal.{HasNoBadPlaceWithin}
use Rattle.trace_log.specs.declared.fault.Fault.{Fault}
use Rattle.trace_log.specs.declared.fault.Fault.TheVariants.{BadLine, Oversize, LogLimit, OutputLimit, Read, Write, Memory}
use Rattle.trace_run.specs.declared.machine.NoAnswer.{NoAnswer}
use Rattle.trace_run.specs.declared.machine.NoAnswer.TheVariants as no_answer
use Rattle.trace_log.specs.declared.summary.Summary.{Summary}
use Rattle.trace_log.specs.Trace.{trace}
use Rattle.trace_log.proofs.Promises.{lines_certify}

module _ {A : Type 0} (of : Command A) (is_lenient : of.script.strict ≡ false)
    (has_answer : (T : List Entry) (summary : Summary) → of.answers T summary (Err no_answer.OutputLimit) → ⊥) where
  -- where a fault tells why the log can't be read, that is so
  pub unread_for : (limit : ℕ) (settings : Settings) (log : List ℕ) (given : ℕ) (fault : Fault) (old new : List ℕ)
      → AnswersAndWrites of limit settings log given (Err fault) old new → CantBeRead settings log fault
  unread_for limit settings log given (BadLine line column) old new (is, wrote) =
      subst (λ strict. IsUnreadFor strict limit settings log (BadLine line column)) is_lenient is
  unread_for limit settings log given (Oversize line announced) old new (is, wrote) =
      subst (λ strict. IsUnreadFor strict limit settings log (Oversize line announced)) is_lenient is
  unread_for limit settings log given LogLimit old new (is, wrote) =
      subst (λ strict. IsUnreadFor strict limit settings log LogLimit) is_lenient is
  unread_for limit settings log given OutputLimit old new (whole, meanings, read, answered, wrote) =
      absurd (has_answer (trace settings meanings) (summary_of limit settings log meanings) answered)
  unread_for limit settings log given Read old new is = tt
  unread_for limit settings log given Write old new is = tt
  unread_for limit settings log given Memory old new is = tt

  -- no announced length is the fault
  pub no_oversize : (settings : Settings) (log : List ℕ) (given : ℕ) (result : Result A Fault) (old new : List ℕ)
      → AnswersAndWrites of MESSAGE_LIMIT settings log given result old new
      → IfErr result (λ why. (line announced : ℕ) → why ≢ Oversize line announced)
  no_oversize settings log given (Ok value) old new answered = tt
  no_oversize settings log given (Err why) old new answered = λ line announced is.
      subst (CantBeRead settings log) is (unread_for MESSAGE_LIMIT settings log given why old new answered)

  -- nor is it the length of the output
  pub no_output_limit : (settings : Settings) (log : List ℕ) (given : ℕ) (result : Result A Fault) (old new : List ℕ)
      → AnswersAndWrites of MESSAGE_LIMIT settings log given result old new → IfErr result (λ why. why ≢ OutputLimit)
  no_output_limit settings log given (Ok value) old new answered = tt
  no_output_limit settings log given (Err why) old new answered = λ is.
      subst (CantBeRead settings log) is (unread_for MESSAGE_LIMIT settings log given why old new answered)

-- the counts that are answered certify what those of the lines do
pub certifies : (of : Command Summary) → of.script.strict ≡ false
    → ((T : List Entry) (summary : Summary) (result : Result Summary NoAnswer) → of.answers T summary result → result ≡ Ok summary)
    → (settings : Settings) (log : List ℕ) (given : ℕ) (result : Result Summary Fault) (old new : List ℕ)
    → AnswersAndWrites of MESSAGE_LIMIT settings log given result old new
    → IfOk result (Certifies MESSAGE_LIMIT settings log)
certifies of is_lenient counts settings log given (Ok summary) old new (all, meanings, is, answered, wrote) =
    let same : summary_of MESSAGE_LIMIT settings log meanings ≡ summary =
    cc (counts (trace settings meanings) (summary_of MESSAGE_LIMIT settings log meanings) (Ok summary) answered) in
    let read : IsReadAs settings log (Ok meanings) =
    subst (λ strict. IsReadToEnd strict MESSAGE_LIMIT settings log meanings) is_lenient is in
    subst (Certifies MESSAGE_LIMIT settings log) same (lines_certify MESSAGE_LIMIT settings log meanings (omega arith) read.1)
certifies of is_lenient counts settings log given (Err why) old new answered = tt

-- what is read is near to a refused place, where the script is not strict
pub near_when_lenient : {strict : Bool} → strict ≡ false → (settings : Settings) (log : List ℕ) {given before after : ℕ}
    → ReadsWhile (StopsNothingWithin strict MESSAGE_LIMIT settings log) given before after
    → ReadsWhile (HasNoBadPlaceWithin log) given before after
near_when_lenient {strict} is settings log {given} {before} {after} near =
    subst (λ (s : Bool). ReadsWhile (StopsNothingWithin s MESSAGE_LIMIT settings log) given before after) is near

-- a frame that needed memory is kept, or its message masked, where the command needs none to tell it
pub needs_when_none : (needs : List Entry → Entry → Type 0) → ((T : List Entry) (e : Entry) → needs T e → ⊥)
    → (settings : Settings) (log : List ℕ)
    → HasFrame (λ T e. IsKeptOrMasked MESSAGE_LIMIT settings.rules T e ⊎ needs T e) settings log
    → NeedsMemoryToReceive MESSAGE_LIMIT settings log
needs_when_none needs none settings log found =
    record { before = found.before; line = found.line; frame = found.frame; begins = found.begins; own = found.own; holds = kept found.holds }
  where
    kept : IsKeptOrMasked MESSAGE_LIMIT settings.rules (trace settings found.before) found.frame ⊎ needs (trace settings found.before) found.frame
        → IsKeptOrMasked MESSAGE_LIMIT settings.rules (trace settings found.before) found.frame
    kept (inl holds) = holds
    kept (inr needed) = absurd (none _ _ needed)
