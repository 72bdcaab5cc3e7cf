-- What a run over logs answers, what it takes from its input, and what its output takes.
use Rattle.std.specs.Prelude.{◌≡◌, ◌≢◌, ℕ, ◌+◌, ◌⊎◌, Bool, List, true, false, Option, Result, Err}
use Rattle.trace_log.specs.Settings.{Settings}
use Rattle.trace_log.specs.Devices.{AgreesWith, bytes_given, ReadFrom}
use Rattle.trace_log.specs.Failing.{FailedIf}
use Rattle.trace_log.specs.declared.fault.CompareFault.{CompareFault}
use Rattle.trace_log.specs.declared.fault.CompareFault.TheVariants.{Left, Right}
use Rattle.trace_log.specs.declared.fault.Fault.{Fault}
use Rattle.trace_log.specs.declared.fault.Fault.TheVariants.{Memory, Read, Write}
use Rattle.trace_log.specs.declared.summary.Summary.{Summary}
use Rattle.trace_io.specs.Stream.{Took}
use Rattle.trace_run.specs.Script.{glimpse_of}
use Rattle.trace_io.specs.declared.device.Source.{Ghosts as SourceGhosts}
use Rattle.trace_io.specs.declared.device.Target.{Ghosts as TargetGhosts}
use Rattle.udsnorm.specs.Engines.{EngineAnswers, EngineNeeds, EngineReads, EngineWritesEagerly, PairEngineAnswers, PairEngineNeedsForLeft, PairEngineNeedsForRight, PairEngineReads, has_text}
use Rattle.udsnorm.specs.Ending.{ComesTo, answer_written, flushes, status_of_run, status_of_run_of_two}
use Rattle.udsnorm.specs.FaultLines.{run_text, run_two_text}
use Rattle.udsnorm.specs.Telling.{TookText, WroteText}
use Rattle.command_line.specs.declared.commands.Job.{Job}
use Rattle.udsnorm.specs.declared.pair_jobs.PairAnswer.{PairAnswer}
use Rattle.command_line.specs.declared.commands.PairJob.{PairJob}

-- What a run over one log did, which has this name on a page and has to be clean where the run is strict: from its
-- input to its output and its error output, its exit status, and the outcome that this is of.
pub record RanOne {R W E : Type 0} (source : SourceGhosts R) (output : TargetGhosts W) (errors : TargetGhosts E) (job : Job) (name : List ℕ) (strict : Bool) (limit : ℕ) (settings : Settings)
    (before : R) (old : W) (unsaid : E) (status : ℕ) (outcome : Result Summary Fault) (after : R) (new : W) (said : E) : Type 0 where
  -- what the engine answered, and what the output took, for each log with which the bytes that were read agree
  pub answer : Result Summary Fault
  pub engine : (log : List ℕ) → AgreesWith source before after log
      → EngineAnswers job name (glimpse_of source after) limit settings log (bytes_given source before after) answer (output.taken old) (output.taken new)
  -- before each read all was written that the lines so far decide
  pub eager : (log : List ℕ) → AgreesWith source before after log
      → EngineWritesEagerly job name (glimpse_of source after) limit settings log (bytes_given source before after) (output.taken old) (output.taken new)
  -- memory was refused, with status 5, only for a log that needs it
  pub memory : (log : List ℕ) → AgreesWith source before after log → status ≡ 5 → EngineNeeds job name (glimpse_of source after) limit settings log
  -- reading stopped within one piece of what refuses the log
  pub near : (log : List ℕ) → AgreesWith source before after log
      → EngineReads job name (glimpse_of source after) limit settings log (bytes_given source before after) (source.failures before) (source.failures after)
  pub read : ReadFrom source Read settings.max_bytes answer before after
  -- the outcome: the answer, or a failed write where a flush was due and failed
  pub comes : ComesTo (flushes answer (output.taken new)) answer outcome
  pub status_is : status ≡ status_of_run strict outcome
  -- where a flush was due and did not fail, the output is flushed, by one flush; else there was none
  pub flushed : flushes answer (output.taken new) ≡ true → outcome ≢ Err Write → output.is_flushed new ≡ true
  pub flushed_once : flushes answer (output.taken new) ≡ true → outcome ≢ Err Write → output.flushes new ≡ output.flushes old + 1
  pub not_flushed : (flushes answer (output.taken new) ≡ false) ⊎ (outcome ≡ Err Write) → output.flushes new ≡ output.flushes old
  -- a failed write is told exactly where a write or the flush failed
  pub failed : FailedIf Write outcome (output.failures old) (output.failures new)
  pub took : Took (output.taken old) (output.taken new) (output.contents old) (output.contents new)
  pub no_empty_write : output.had_empty_write new ≡ output.had_empty_write old
  -- the error output took the text of what it came to
  pub told : TookText (run_text strict outcome) (errors.failures unsaid) (errors.failures said) (errors.taken unsaid) (errors.taken said)

-- What a run over two logs did, which have these names in its text and have to be clean where the run is strict: from its
-- inputs to its output and its error output, its exit status, and what was answered, where the text of that was
-- written. Nothing is written before both are read.
pub record RanTwo {A B W E : Type 0} (left : SourceGhosts A) (right : SourceGhosts B) (output : TargetGhosts W) (errors : TargetGhosts E) (job : PairJob) (left_name right_name : List ℕ)
    (strict : Bool) (limit : ℕ) (settings : Settings) (one : A) (other : B) (old : W) (unsaid : E) (status : ℕ) (written : Option (Result PairAnswer CompareFault)) (one_now : A) (other_now : B) (new : W) (said : E) : Type 0 where
  -- what the engine answered, and its text, for all logs with which the bytes that were read agree
  pub answer : Result PairAnswer CompareFault
  pub text : List ℕ
  pub engine : (a b : List ℕ) → AgreesWith left one one_now a → AgreesWith right other other_now b
      → PairEngineAnswers job left_name right_name (glimpse_of left one_now) (glimpse_of right other_now) strict limit settings a b answer text
  -- after a fault of the left log nothing of the right one was read
  pub unread : (fault : Fault) → answer ≡ Err (Left fault) → other_now ≡ other
  -- memory was refused only for a log that needs it, or to the difference of both, where one means an item
  pub left_memory : (a : List ℕ) → AgreesWith left one one_now a → answer ≡ Err (Left Memory)
      → PairEngineNeedsForLeft job left_name right_name (glimpse_of left one_now) (glimpse_of right other_now) limit settings a
  pub right_memory : (a b : List ℕ) → AgreesWith left one one_now a → AgreesWith right other other_now b → answer ≡ Err (Right Memory)
      → PairEngineNeedsForRight job left_name right_name (glimpse_of left one_now) (glimpse_of right other_now) limit settings a b
  -- reading stopped within one piece of what refuses a log
  pub left_near : (a : List ℕ) → AgreesWith left one one_now a
      → PairEngineReads job left_name right_name (glimpse_of left one_now) (glimpse_of right other_now) limit settings a (bytes_given left one one_now) (left.failures one) (left.failures one_now)
  pub right_near : (b : List ℕ) → AgreesWith right other other_now b
      → PairEngineReads job left_name right_name (glimpse_of left one_now) (glimpse_of right other_now) limit settings b (bytes_given right other other_now) (right.failures other) (right.failures other_now)
  pub left_read : ReadFrom left (Left Read) settings.max_bytes answer one one_now
  pub right_read : ReadFrom right (Right Read) settings.max_bytes answer other other_now
  -- whether the text was written, and flushed where there is one: then the output took all of it, and else a front
  pub wrote : Bool
  pub output_is : WroteText output text wrote old new
  -- where there is a text, the output is flushed behind it, by one flush; else it is left alone
  pub flushed : has_text job strict answer ≡ true → wrote ≡ true → output.is_flushed new ≡ true
  pub flushed_once : has_text job strict answer ≡ true → wrote ≡ true → output.flushes new ≡ output.flushes old + 1
  pub not_flushed : wrote ≡ false → output.flushes new ≡ output.flushes old
  pub left_alone : has_text job strict answer ≡ false → (wrote ≡ true) × (new ≡ old)
  -- the status is the answer's, or that of a failed write, and the error output took the text of that
  pub status_is : status ≡ status_of_run_of_two wrote strict answer
  pub written_is : written ≡ answer_written wrote answer
  pub told : TookText (run_two_text wrote strict answer) (errors.failures unsaid) (errors.failures said) (errors.taken unsaid) (errors.taken said)
