-- A run over any command (`Script.antt`): all that its callers know of it, in `Ran`; and in `RanLenient` what they know
-- of a run of a command that is not strict, and has an answer at the end of each log.
use Rattle.std.specs.Prelude.{◌≡◌, ◌≢◌, ℕ, ◌⊎◌, List, Result, Err, IfErr}
use Rattle.isotp_receive.specs.Trace.{Entry}
use Rattle.isotp_receive.specs.declared.TheConstants.{MESSAGE_LIMIT}
use Rattle.trace_io.specs.declared.device.Source.{Ghosts as SourceGhosts}
use Rattle.trace_io.specs.declared.device.Target.{Ghosts as TargetGhosts}
use Rattle.trace_log.specs.declared.fault.Fault.{Fault}
use Rattle.trace_log.specs.declared.fault.Fault.TheVariants.{Oversize, OutputLimit}
use Rattle.trace_log.specs.declared.fault.Fault.TheVariants.{Read, Write, Memory}
use Rattle.trace_log.specs.Answers.{ReadsWhile}
use Rattle.trace_log.specs.Settings.{AreSettings, Settings}
use Rattle.trace_log.specs.Devices.{AgreesWith, bytes_given, ReadFrom, WroteTo}
use Rattle.trace_log.specs.Needing.{HasFrame, IsKeptOrMasked, NeedsMemoryToReceive}
use Rattle.trace_log.specs.Refusal.{HasNoBadPlaceWithin}
use Rattle.uds_rules.specs.Rule.{RuleValue}
use Rattle.trace_run.specs.Script.{Command, GlimpseValue, command}
use Rattle.trace_run.specs.declared.machine.Machine.{Ghosts as MachineGhosts}
use Rattle.trace_run.specs.Stopping.{StopsNothingWithin}
use Rattle.trace_run.specs.AnswersAndWrites.{WritesSaidEagerly, AnswersAndWrites}

-- the command of a machine under rules that was `machine_start` at the start, where this is seen of the source
abbrev pub command_of : {A M : Type 0} → MachineGhosts M A → GlimpseValue → List RuleValue → M → Command A
command_of machine glimpse rules machine_start =
    command (machine.script rules machine_start) (machine.refusal rules machine_start glimpse)
    (machine.answers rules machine_start) (machine.needs rules machine_start)

-- A run of a command from a source to a target: all that a caller knows of it.
pub record Ran {R W A : Type 0} (source : SourceGhosts R) (target : TargetGhosts W) (of : Command A)
    (settings : Settings) (before : R) (old : W) (result : Result A Fault) (after : R) (new : W) : Type 0 where
  -- what is answered and written, for each log with which the bytes that were read agree
  pub answer : (log : List ℕ) → AgreesWith source before after log
      → AnswersAndWrites of MESSAGE_LIMIT settings log (bytes_given source before after) result
      (target.taken old) (target.taken new)
  -- before each read what was said was written
  pub eager : (log : List ℕ) → AgreesWith source before after log → WritesSaidEagerly of.script MESSAGE_LIMIT settings log
      (bytes_given source before after) (target.taken old) (target.taken new)
  -- memory is refused only for a log that needs it: for a message of several frames, for one that is masked, or for a
  -- frame for which the command needs some
  pub memory : (log : List ℕ) → AgreesWith source before after log
      → result ≡ Err Memory → HasFrame (λ T e. IsKeptOrMasked MESSAGE_LIMIT settings.rules T e ⊎ of.needs T e) settings log
  -- reading stops within one piece
  pub near : (log : List ℕ) → AgreesWith source before after log
      → ReadsWhile (StopsNothingWithin of.script.strict MESSAGE_LIMIT settings log) (bytes_given source before after)
      (source.failures before) (source.failures after)
  -- the settings are those of a configuration
  pub configured : AreSettings settings
  -- what it did with its devices
  pub read : ReadFrom source Read settings.max_bytes result before after
  pub wrote : WroteTo target Write result old new

-- A run of a command that is not strict, and has an answer at the end of each log: all that a caller knows of it.
pub record RanLenient {R W A : Type 0} (source : SourceGhosts R) (target : TargetGhosts W) (of : Command A)
    (settings : Settings) (before : R) (old : W) (result : Result A Fault) (after : R) (new : W) : Type 0 where
  pub run : Ran source target of settings before old result after new
  -- reading stops within one piece of a refused place
  pub near : (log : List ℕ) → AgreesWith source before after log
      → ReadsWhile (HasNoBadPlaceWithin log) (bytes_given source before after)
      (source.failures before) (source.failures after)
  -- no log is refused for an announced length, nor for the length of what would be said of it
  pub never_oversize : IfErr result (λ fault. (line announced : ℕ) → fault ≢ Oversize line announced)
  pub never_output_limit : IfErr result (λ fault. fault ≢ OutputLimit)
  -- where the command needs no memory, it is refused only for a message of several frames, or for one that is masked
  pub memory : ((T : List Entry) (e : Entry) → of.needs T e → ⊥) → (log : List ℕ) → AgreesWith source before after log
      → result ≡ Err Memory → NeedsMemoryToReceive MESSAGE_LIMIT settings log
