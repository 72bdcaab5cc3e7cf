-- How a run ends: what was written is flushed, and only then a fault is told.
use Rattle.std.specs.Prelude.{◌≡◌, ℕ, ◌+◌, ◌&&◌, not, nat_lt, ◌⊎◌, Bool, true, false, List, length, Option, Some, None, Result, Ok, Err, if◌then◌else◌}
use Rattle.trace_canon.specs.Compared.{fault_in}
use Rattle.trace_log.specs.Summing.{is_clean}
use Rattle.trace_canon.specs.declared.comparer.Comparison.{Comparison}
use Rattle.trace_canon.specs.declared.comparer.Comparison.TheVariants.{Same, Different}
use Rattle.trace_log.specs.declared.fault.CompareFault.{CompareFault}
use Rattle.trace_log.specs.declared.fault.Fault.{Fault}
use Rattle.trace_log.specs.declared.fault.Fault.TheVariants.{Write}
use Rattle.trace_log.specs.declared.summary.Summary.{Summary}
use Rattle.udsnorm.specs.Status.{is_refusal, status_of}
use Rattle.udsnorm.specs.declared.pair_jobs.PairAnswer.{PairAnswer}

-- Whether the output is flushed after this answer, where it took these bytes: after an `Ok`, and after a refused log
-- where it took any. After a failed device or refused memory it is not.
abbrev pub flushes : {A : Type 0} → Result A Fault → List ℕ → Bool
flushes (Ok value) taken = true
flushes (Err fault) taken = is_refusal fault && nat_lt 0 (length taken)

-- What a run comes to that is flushed after this answer or is not, by the failures and the flushes of its output and
-- whether that is flushed: the answer, with one flush more or none, or a failed write where the flush failed.
abbrev pub EndsAs : {A : Type 0} → Bool → Result A Fault → ℕ → ℕ → ℕ → ℕ → Bool → Result A Fault → Type 0
EndsAs false answer failures failures_now times times_now is_flushed outcome = (outcome ≡ answer) × (failures_now ≡ failures) × (times_now ≡ times)
EndsAs true answer failures failures_now times times_now is_flushed outcome =
    ((outcome ≡ answer) × (failures_now ≡ failures) × (is_flushed ≡ true) × (times_now ≡ times + 1))
    ⊎ ((outcome ≡ Err Write) × (failures_now ≡ failures + 1) × (times_now ≡ times))

-- the same, without the devices
abbrev pub ComesTo : {A : Type 0} → Bool → Result A Fault → Result A Fault → Type 0
ComesTo flushes answer outcome = (outcome ≡ answer) ⊎ ((flushes ≡ true) × (outcome ≡ Err Write))

-- the log with this summary has to be clean, and is not
abbrev pub is_unclean : Bool → Summary → Bool
is_unclean strict summary = strict && not (is_clean summary)

-- the exit status of what a run over one log comes to, which has to be clean where the run is strict
abbrev pub status_of_run : Bool → Result Summary Fault → ℕ
status_of_run strict (Ok summary) = if is_unclean strict summary then 6 else 0
status_of_run strict (Err fault) = status_of fault

-- 0 for logs that mean the same, and 1 for others
abbrev pub status_of_comparison : Comparison → ℕ
status_of_comparison Same = 0
status_of_comparison (Different place) = 1

-- one of two logs has to be clean, and is not
abbrev pub has_unclean : Bool → PairAnswer → Bool
has_unclean strict pair = strict && not (is_clean pair.left && is_clean pair.right)

-- the exit status of an answer about two logs, which have to be clean where the run is strict
abbrev pub status_of_pair : Bool → Result PairAnswer CompareFault → ℕ
status_of_pair strict (Ok pair) = if has_unclean strict pair then 6 else status_of_comparison pair.comparison
status_of_pair strict (Err fault) = status_of (fault_in fault)

-- that of a run over two logs: the answer's, or 4 where its text was not written and flushed
abbrev pub status_of_run_of_two : Bool → Bool → Result PairAnswer CompareFault → ℕ
status_of_run_of_two wrote strict answer = if wrote then status_of_pair strict answer else status_of Write

-- the answer of such a run, where its text was written
abbrev pub answer_written : Bool → Result PairAnswer CompareFault → Option (Result PairAnswer CompareFault)
answer_written wrote answer = if wrote then Some answer else None
