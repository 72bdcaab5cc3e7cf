-- Devices of proof: a run ends, at the end of the log or on a fault.
use Rattle.std.specs.Prelude.{◌≡◌, ℕ, ◌⊎◌, Bool, true, false, List, ◌++◌, Option, Result, Ok, Err}
use Rattle.can_log.specs.declared.frame.Stamped.{Stamped}
use Rattle.isotp_receive.specs.declared.TheConstants.{MESSAGE_LIMIT}
use Rattle.trace_io.specs.declared.device.Target.{Ghosts as TargetGhosts}
use Rattle.trace_log.specs.Settings.{Settings}
use Rattle.trace_log.specs.Summing.{ends_in_line_feed, summary_of}
use Rattle.trace_log.specs.Trace.{trace}
use Rattle.trace_log.specs.declared.fault.Fault.{Fault}
use Rattle.trace_log.specs.declared.fault.Fault.TheVariants as fault
use Rattle.trace_log.specs.proving.Receiving.{Receives}
use Rattle.trace_run.specs.Script.{GlimpseValue, refusal_of_lines, whole_of_lines}
use Rattle.trace_run.specs.declared.machine.Machine.{Ghosts as MachineGhosts}
use Rattle.trace_run.specs.declared.machine.NoAnswer.{NoAnswer}
use Rattle.trace_run.specs.declared.machine.NoAnswer.TheVariants as no_answer
use Rattle.trace_run.specs.declared.sheet.Sheet.{Sheet}
use Rattle.trace_run.specs.declared.receiver.Receiver.{Receiver}
use Rattle.trace_run.specs.proving.Carrying.{HasSaid, WritesOn, blank_sheet}
use Rattle.trace_run.specs.proving.Ruling.{HasJudged}
use Rattle.trace_run.specs.proving.Telling.{Start, HasTold}

module _ {W : Type 0} (target : TargetGhosts W) where
  -- since this start this was said, and is written before the fault with this name; or that failed, which is then the
  -- fault
  abbrev pub EndsOn : Fault → W → List ℕ → Fault → W → Type 0
  EndsOn name start said result new =
      ((result ≡ name) × HasSaid target start said (blank_sheet false) new)
      ⊎ ((result ≡ fault.Write) × HasSaid target start said (blank_sheet true) new)

  -- whatever was said to a sheet before the fault with this name is written before it; or that failed, which is then
  -- the fault
  abbrev pub SettlesAs : Fault → Sheet → W → Fault → W → Type 0
  SettlesAs name sheet old result new =
      (start : W) (said : List ℕ) → HasSaid target start said sheet old → EndsOn name start said result new

  -- whatever was said to a sheet before the fault with this name is written before it, with this text behind it; or
  -- that failed
  abbrev pub SettlesWith : List ℕ → Fault → Sheet → W → Fault → W → Type 0
  SettlesWith text name sheet old result new =
      (start : W) (said : List ℕ) → HasSaid target start said sheet old → EndsOn name start (said ++ text) result new

-- How a run ends on a fault, where this is then seen of its source.
module _ {A M W : Type 0} (machine : MachineGhosts M A) (target : TargetGhosts W) (glimpse : GlimpseValue) where
  -- on a refusal that the machine is told: whatever lines it has taken, what is said of it is written
  abbrev pub RefusesSaying : Fault → Receiver M W → W → Fault → W → Type 0
  RefusesSaying why receiver old result new =
      (machine_start : M) (settings : Settings) (meanings : List (Option Stamped))
      → Receives settings meanings receiver.pair receiver.lines receiver.counts
      → HasJudged settings.rules (trace settings meanings) receiver.telling.judge receiver.telling.ruling.left_out
      → machine.stands settings.rules machine_start (trace settings meanings) receiver.telling.machine
      → SettlesWith target
      (refusal_of_lines (machine.refusal settings.rules machine_start glimpse) MESSAGE_LIMIT settings why meanings)
      why receiver.telling.sheet old result new

  -- a fault of a device stands as it is, and before others all that is said is written
  abbrev pub GivesUp : Fault → Receiver M W → W → Fault → W → Type 0
  GivesUp (fault.BadLine line column) receiver old result new =
      RefusesSaying (fault.BadLine line column) receiver old result new
  GivesUp fault.LogLimit receiver old result new = RefusesSaying fault.LogLimit receiver old result new
  GivesUp (fault.Oversize line announced) receiver old result new =
      SettlesAs target (fault.Oversize line announced) receiver.telling.sheet old result new
  GivesUp fault.OutputLimit receiver old result new =
      SettlesAs target fault.OutputLimit receiver.telling.sheet old result new
  GivesUp fault.Memory receiver old result new = SettlesAs target fault.Memory receiver.telling.sheet old result new
  GivesUp fault.Read receiver old result new = (result ≡ fault.Read) × (new ≡ old)
  GivesUp fault.Write receiver old result new = (result ≡ fault.Write) × (new ≡ old)

-- How a run ends that has read the log, whose lines mean this.
module _ {A M W : Type 0} (machine : MachineGhosts M A) (target : TargetGhosts W) (start : Start M W) (settings : Settings)
    (log : List ℕ) (meanings : List (Option Stamped)) where
  -- all that is said of the log
  abbrev pub whole_since : List ℕ
  whole_since = whole_of_lines (machine.script start.rules start.machine) MESSAGE_LIMIT settings log meanings

  -- with this answer of the machine, and all that is said of the log was written
  abbrev pub EndsAnswering : Result A NoAnswer → W → Type 0
  EndsAnswering result new =
      machine.answers start.rules start.machine (trace settings meanings) (summary_of MESSAGE_LIMIT settings log meanings)
      result
      × HasSaid target start.target whole_since (blank_sheet false) new

  -- with that answer, or because writing failed
  abbrev pub EndsSaying : Result A Fault → W → Type 0
  EndsSaying (Ok value) new = EndsAnswering (Ok value) new
  EndsSaying (Err fault.OutputLimit) new = EndsAnswering (Err no_answer.OutputLimit) new
  EndsSaying (Err fault.Write) new = HasSaid target start.target whole_since (blank_sheet true) new
  EndsSaying (Err fault.Read) new = ⊥
  EndsSaying (Err fault.Memory) new = ⊥
  EndsSaying (Err fault.LogLimit) new = ⊥
  EndsSaying (Err (fault.BadLine line column)) new = ⊥
  EndsSaying (Err (fault.Oversize line announced)) new = ⊥

module _ {A M W : Type 0} (machine : MachineGhosts M A) (target : TargetGhosts W) where
  -- whatever log a run has read, which ended in a line feed or not, it ends as is said of that log
  abbrev pub EndsRun : Receiver M W → Bool → W → Result A Fault → W → Type 0
  EndsRun receiver ended old result new =
      (start : Start M W) (settings : Settings) (log : List ℕ) (meanings : List (Option Stamped))
      → Receives settings meanings receiver.pair receiver.lines receiver.counts
      → ended ≡ ends_in_line_feed log → start.rules ≡ settings.rules
      → HasTold machine target start (trace settings meanings) receiver.telling old
      → EndsSaying machine target start settings log meanings result new

  -- whatever lines a run has taken, it writes on
  abbrev pub EndsBehind : Receiver M W → W → W → Type 0
  EndsBehind receiver old new =
      (machine_start : M) (settings : Settings) (meanings : List (Option Stamped))
      → Receives settings meanings receiver.pair receiver.lines receiver.counts
      → machine.stands settings.rules machine_start (trace settings meanings) receiver.telling.machine
      → WritesOn target receiver.telling.sheet old new
