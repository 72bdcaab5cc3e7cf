-- What a run comes to, by what an engine answered and which devices failed.
use Rattle.std.proofs.Common.{◌≡◌, ◌≢◌, ◌≤◌, ◌⊎◌, ◌+◌, ◌-◌, ℕ, inl, inr, Bool, true, false, true≢false, List, [], ◌++◌, length, length-append, append-nil, Option, Some, None, Result, Ok, Err, arith, refl, ap, sym, subst, ◌∙◌}
use Rattle.std.specs.Prelude.{if◌then◌else◌, ◌&&◌, not, IfOk}
use Rattle.std.specs.Io.KnownBytes.{Appends, Keeps}
use Rattle.trace_log.specs.Failing.{FailedIf}
use Rattle.trace_log.specs.Laws.{IsCertified}
use Rattle.trace_log.specs.Summing.{is_clean}
use Rattle.trace_log.specs.declared.fault.Fault.{Fault}
use Rattle.trace_log.specs.declared.fault.Fault.TheVariants as fault
use Rattle.trace_log.specs.Settings.{Settings}
use Rattle.trace_log.specs.declared.summary.Summary.{Summary}
use Rattle.trace_io.specs.Stream.{Agrees, Took}
use Rattle.udsnorm.specs.Ending.{ComesTo, EndsAs, flushes, is_unclean, status_of_run}
use Rattle.trace_run.specs.Script.{GlimpseValue}
use Rattle.udsnorm.specs.Engines.{EngineAnswers}
use Rattle.udsnorm.specs.Status.{status_of}
use Rattle.command_line.specs.declared.commands.Job.{Job}

-- ---- after the flush

-- the same, without the devices
pub comes_to : (due : Bool) (answer outcome : Result Summary Fault) (old new times times_now : ℕ) (is_flushed : Bool) → EndsAs due answer old new times times_now is_flushed outcome → ComesTo due answer outcome
comes_to false answer outcome old new times times_now is_flushed ends = inl ends.0
comes_to true answer outcome old new times times_now is_flushed (inl same) = inl same.0
comes_to true answer outcome old new times times_now is_flushed (inr failed) = inr (refl, failed.0)

-- where a flush was due and did not fail, the output is flushed
pub is_flushed_then : (due : Bool) (answer outcome : Result Summary Fault) (old new times times_now : ℕ) (is_flushed : Bool) → EndsAs due answer old new times times_now is_flushed outcome
    → due ≡ true → outcome ≢ Err fault.Write → is_flushed ≡ true
is_flushed_then false answer outcome old new times times_now is_flushed ends is well = absurd (true≢false (sym is))
is_flushed_then true answer outcome old new times times_now is_flushed (inl same) is well = same.2
is_flushed_then true answer outcome old new times times_now is_flushed (inr failed) is well = absurd (well failed.0)

-- no flush is due after a failed write
never_due : (answer : Result Summary Fault) (taken : List ℕ) → flushes answer taken ≡ true → answer ≡ Err fault.Write → ⊥
never_due (Ok summary) taken due is = cc
never_due (Err why) taken due is = absurd (true≢false (sym due ∙ ap (λ a. flushes a taken) is))

-- a failed write, of the engine or of the flush, is counted once
pub failed_once : (answer outcome : Result Summary Fault) (taken : List ℕ) (first old new times times_now : ℕ) (is_flushed : Bool) → FailedIf fault.Write answer first old
    → EndsAs (flushes answer taken) answer old new times times_now is_flushed outcome → FailedIf fault.Write outcome first new
failed_once answer outcome taken first old new times times_now is_flushed wrote = by (flushes answer taken) refl
  where
    by : (due : Bool) → flushes answer taken ≡ due → EndsAs due answer old new times times_now is_flushed outcome → FailedIf fault.Write outcome first new
    by false is ends = record {
      risen = λ failed. ends.1 ∙ wrote.risen (sym ends.0 ∙ failed);
      same = λ well. ends.1 ∙ wrote.same (λ failed. well (ends.0 ∙ failed));
    }
    by true is (inl same) = record {
      risen = λ failed. same.1 ∙ wrote.risen (sym same.0 ∙ failed);
      same = λ well. same.1 ∙ wrote.same (λ failed. well (same.0 ∙ failed));
    }
    by true is (inr failed) = record {
      risen = λ again. failed.1 ∙ ap (λ n. n + 1) (wrote.same (never_due answer taken is));
      same = λ well. absurd (well failed.0);
    }

-- where a flush was due and did not fail, there was one
pub flushed_once_then : (due : Bool) (answer outcome : Result Summary Fault) (old new times times_now : ℕ) (is_flushed : Bool)
    → EndsAs due answer old new times times_now is_flushed outcome → due ≡ true → outcome ≢ Err fault.Write → times_now ≡ times + 1
flushed_once_then false answer outcome old new times times_now is_flushed ends is well = absurd (true≢false (sym is))
flushed_once_then true answer outcome old new times times_now is_flushed (inl same) is well = same.3
flushed_once_then true answer outcome old new times times_now is_flushed (inr failed) is well = absurd (well failed.0)

-- and else there was none
pub not_flushed_then : (answer outcome : Result Summary Fault) (taken : List ℕ) (old new times times_now : ℕ) (is_flushed : Bool)
    → EndsAs (flushes answer taken) answer old new times times_now is_flushed outcome → (flushes answer taken ≡ false) ⊎ (outcome ≡ Err fault.Write) → times_now ≡ times
not_flushed_then answer outcome taken old new times times_now is_flushed = by (flushes answer taken) refl
  where
    by : (due : Bool) → flushes answer taken ≡ due → EndsAs due answer old new times times_now is_flushed outcome → (due ≡ false) ⊎ (outcome ≡ Err fault.Write) → times_now ≡ times
    by false is ends none = ends.2
    by true is (inl same) (inl undue) = absurd (true≢false undue)
    by true is (inl same) (inr failed) = absurd (never_due answer taken is (sym same.0 ∙ failed))
    by true is (inr failed) none = failed.2

-- there was at most one
pub flushed_at_most_once : (due : Bool) (answer outcome : Result Summary Fault) (old new times times_now : ℕ) (is_flushed : Bool)
    → EndsAs due answer old new times times_now is_flushed outcome → times_now ≤ times + 1
flushed_at_most_once false answer outcome old new times times_now is_flushed ends = omega (arith, ends.2)
flushed_at_most_once true answer outcome old new times times_now is_flushed (inl same) = omega (arith, same.3)
flushed_at_most_once true answer outcome old new times times_now is_flushed (inr failed) = omega (arith, failed.2)

held_still : (bytes : List ℕ) (first old new : Option (List ℕ)) → Appends first old bytes → Keeps old new → Appends first new bytes
held_still bytes None old new held kept = tt
held_still bytes (Some a) None new held kept = absurd held
held_still bytes (Some a) (Some b) None held kept = absurd kept
held_still bytes (Some a) (Some b) (Some d) held kept = kept ∙ held

-- a flush changes nothing of what a target took and holds
pub took_still : (first old new : List ℕ) (held held_then held_now : Option (List ℕ)) → Took first old held held_then → new ≡ old → Keeps held_then held_now
    → Took first new held held_now
took_still first old new held held_then held_now took same kept = record {
  bytes = took.bytes;
  grown = same ∙ took.grown;
  held = held_still took.bytes held held_then held_now took.held kept;
}

-- ---- what a source that was read from its start gave

-- it agrees with this log
pub agrees_with_more : (old new log : List ℕ) (is_over : Bool) → new ≡ old ++ log → Agrees old new is_over log
agrees_with_more old new log is_over grown = record { rest = []; parts = sym grown ∙ sym (append-nil _); whole = λ over. refl }

-- and from the start with all that it gave
pub agrees_from_start : (old new : List ℕ) (is_over : Bool) → old ≡ [] → Agrees old new is_over new
agrees_from_start old new is_over none = agrees_with_more old new new is_over (ap (λ o. o ++ new) (sym none))

pub count_of_more : (old new log : List ℕ) → new ≡ old ++ log → length new - length old ≡ length log
count_of_more old new log grown =
    let long = ap length grown ∙ length-append old log in
    omega (arith, long)

-- what the engine answers on that
pub answers_on_more : (job : Job) (name : List ℕ) (seen : GlimpseValue) (limit : ℕ) (settings : Settings) (old new log : List ℕ) (is_over : Bool) (answer : Result Summary Fault) (before after : List ℕ) → new ≡ old ++ log
    → ((l : List ℕ) → Agrees old new is_over l → EngineAnswers job name seen limit settings l (length new - length old) answer before after)
    → EngineAnswers job name seen limit settings log (length log) answer before after
answers_on_more job name seen limit settings old new log is_over answer before after grown engine =
    subst (λ n. EngineAnswers job name seen limit settings log n answer before after) (count_of_more old new log grown)
    (engine log (agrees_with_more old new log is_over grown))

pub answers_from_start : (job : Job) (name : List ℕ) (seen : GlimpseValue) (limit : ℕ) (settings : Settings) (old new : List ℕ) (is_over : Bool) (answer : Result Summary Fault) (before after : List ℕ) → old ≡ []
    → ((l : List ℕ) → Agrees old new is_over l → EngineAnswers job name seen limit settings l (length new - length old) answer before after)
    → EngineAnswers job name seen limit settings new (length new) answer before after
answers_from_start job name seen limit settings old new is_over answer before after none engine =
    answers_on_more job name seen limit settings old new new is_over answer before after (ap (λ o. o ++ new) (sym none)) engine

-- ---- where memory is refused

memory_of_fault : (why : Fault) → status_of why ≡ 5 → why ≡ fault.Memory
memory_of_fault (fault.BadLine line column) five = absurd (omega (arith, five))
memory_of_fault (fault.Oversize line announced) five = absurd (omega (arith, five))
memory_of_fault fault.LogLimit five = absurd (omega (arith, five))
memory_of_fault fault.OutputLimit five = absurd (omega (arith, five))
memory_of_fault fault.Read five = absurd (omega (arith, five))
memory_of_fault fault.Write five = absurd (omega (arith, five))
memory_of_fault fault.Memory five = refl

no_five : (unclean : Bool) → ◌≡◌ {A = ℕ} (if unclean then 6 else 0) 5 → ⊥
no_five true five = omega (arith, five)
no_five false five = omega (arith, five)

-- 5 is the status of refused memory alone: so the engine answered that
pub memory_of_five : (strict due : Bool) (answer outcome : Result Summary Fault) (status : ℕ) → ComesTo due answer outcome → status ≡ status_of_run strict outcome → status ≡ 5
    → answer ≡ Err fault.Memory
memory_of_five strict due answer (Ok summary) status comes is five = absurd (no_five (is_unclean strict summary) (sym is ∙ five))
memory_of_five strict due answer (Err why) status (inl same) is five = sym same ∙ ap Err (memory_of_fault why (sym is ∙ five))
memory_of_five strict due answer (Err why) status (inr failed) is five = absurd (omega (arith, ap (status_of_run strict) failed.1, is, five))

-- ---- where it is done

-- a fault has a status of its own
pub faults_are_told : (why : Fault) → status_of why ≡ 0 → ⊥
faults_are_told (fault.BadLine line column) none = absurd (omega (arith, none))
faults_are_told (fault.Oversize line announced) none = absurd (omega (arith, none))
faults_are_told fault.LogLimit none = absurd (omega (arith, none))
faults_are_told fault.OutputLimit none = absurd (omega (arith, none))
faults_are_told fault.Read none = absurd (omega (arith, none))
faults_are_told fault.Write none = absurd (omega (arith, none))
faults_are_told fault.Memory none = absurd (omega (arith, none))

never_ok : (summary : Summary) → Ok summary ≡ Err fault.Write → ⊥
never_ok summary is = cc

-- a log that has to be clean and is not has a status of its own
no_six : (unclean : Bool) → ◌≡◌ {A = ℕ} (if unclean then 6 else 0) 0 → unclean ≡ false
no_six true six = absurd (omega (arith, six))
no_six false none = refl

-- where it is done, the log was accepted, and is clean where it has to be
pub summary_of_done : (strict due : Bool) (answer outcome : Result Summary Fault) (status : ℕ) → ComesTo due answer outcome → status ≡ status_of_run strict outcome → status ≡ 0
    → (summary : Summary) × (answer ≡ Ok summary) × (is_unclean strict summary ≡ false)
summary_of_done strict due answer (Ok summary) status (inl same) is zero = (summary, sym same, no_six (is_unclean strict summary) (sym is ∙ zero))
summary_of_done strict due answer (Ok summary) status (inr failed) is zero = absurd (never_ok summary failed.1)
summary_of_done strict due answer (Err why) status comes is zero = absurd (faults_are_told why (sym is ∙ zero))

-- and the output was flushed once
pub done_once : (strict : Bool) (answer outcome : Result Summary Fault) (taken : List ℕ) (old new times times_now : ℕ) (is_flushed : Bool) (status : ℕ)
    → EndsAs (flushes answer taken) answer old new times times_now is_flushed outcome → status ≡ status_of_run strict outcome → status ≡ 0 → times_now ≡ times + 1
done_once strict answer outcome taken old new times times_now is_flushed status ends is zero =
    let accepted = summary_of_done strict (flushes answer taken) answer outcome status (comes_to (flushes answer taken) answer outcome old new times times_now is_flushed ends) is zero in
    let due : flushes answer taken ≡ true = ap (λ (a : Result Summary Fault). flushes a taken) accepted.1 in
    flushed_once_then (flushes answer taken) answer outcome old new times times_now is_flushed ends due
    (λ failed. faults_are_told fault.Write (ap (status_of_run strict) (sym failed) ∙ sym is ∙ zero))

-- where a strict run is done, its log is clean, and so what its summary certifies
clean_then : (strict clean : Bool) → strict ≡ true → (strict && not clean) ≡ false → clean ≡ true
clean_then true true is none = refl
clean_then true false is none = absurd (true≢false none)
clean_then false clean is none = absurd (true≢false (sym is))

pub recorded_then : (strict due : Bool) (answer outcome : Result Summary Fault) (status limit : ℕ) (settings : Settings) (log : List ℕ) → ComesTo due answer outcome
    → status ≡ status_of_run strict outcome → status ≡ 0 → strict ≡ true → IfOk answer (λ summary. is_clean summary ≡ true → IsCertified limit settings log)
    → IsCertified limit settings log
recorded_then strict due answer outcome status limit settings log comes is zero has_to certifies =
    let done = summary_of_done strict due answer outcome status comes is zero in
    subst (λ (a : Result Summary Fault). IfOk a (λ summary. is_clean summary ≡ true → IsCertified limit settings log)) done.1 certifies
    (clean_then strict (is_clean done.0) has_to done.2)
