-- Devices of proof: a machine was told the frames of a trace, and is told one more.
use Rattle.std.specs.Prelude.{◌≡◌, ℕ, ◌⊎◌, Bool, true, false, List, [], ◌∷◌, ◌++◌, Option, Some, None, Result, OnOk, IfErr}
use Rattle.std.specs.List.{AllByRecursion}
use Rattle.isotp_receive.specs.declared.TheConstants.{MESSAGE_LIMIT}
use Rattle.isotp_receive.specs.Events.{oversize_in, too_long_in}
use Rattle.isotp_receive.specs.Trace.{Entry, layout_in}
use Rattle.isotp_receive.specs.Verdict.{VerdictValue}
use Rattle.trace_io.specs.declared.device.Target.{Ghosts as TargetGhosts}
use Rattle.trace_log.specs.Needing.{IsKeptOrMasked}
use Rattle.trace_log.specs.declared.fault.Fault.{Fault}
use Rattle.trace_log.specs.declared.fault.Fault.TheVariants as fault
use Rattle.trace_log.specs.proving.Announcing.{AnnouncesWithin}
use Rattle.uds_exchange.specs.Judging.{IsJudgeOf}
use Rattle.uds_rules.specs.Rule.{RuleValue}
use Rattle.trace_run.specs.Script.{Needing, said_of_frames}
use Rattle.trace_run.specs.Seen.{IsEventOf}
use Rattle.trace_run.specs.declared.machine.Machine.{Ghosts as MachineGhosts}
use Rattle.trace_run.specs.declared.telling.FrameEvent.{FrameEvent}
use Rattle.trace_run.specs.declared.telling.Telling.{Telling}
use Rattle.trace_run.specs.proving.Carrying.{HasSaid, blank_sheet}
use Rattle.trace_run.specs.proving.Ruling.{HasJudged}

-- the announced length for which a run stops at a frame that did this, where it is strict
abbrev pub oversize_for : Bool → VerdictValue → Option ℕ
oversize_for true did = too_long_in did
oversize_for false did = None

-- why a run stopped at the frame e
abbrev pub StopsFor : Bool → List RuleValue → Needing → List Entry → Entry → Fault → Type 0
StopsFor strict rules needs T e (fault.Oversize line announced) =
    (strict ≡ true) × (line ≡ e.line) × (oversize_in MESSAGE_LIMIT (layout_in e) ≡ Some announced)
StopsFor strict rules needs T e fault.Memory =
    (strict ≡ true → AnnouncesWithin e) × (IsKeptOrMasked MESSAGE_LIMIT rules T e ⊎ needs T e)
StopsFor strict rules needs T e (fault.BadLine line column) = ⊥
StopsFor strict rules needs T e fault.LogLimit = ⊥
StopsFor strict rules needs T e fault.OutputLimit = ⊥
StopsFor strict rules needs T e fault.Read = ⊥
StopsFor strict rules needs T e fault.Write = ⊥

-- this is what the frame e did after the frames T: `IsEventOf` of an event with its line, time and channel beside it
abbrev pub IsFrameEvent : List Entry → Entry → FrameEvent → Type 0
IsFrameEvent T e frame = IsEventOf T e frame.line frame.micros frame.channel frame.event

-- A machine and a target as they were: since then frames are told to the one under these rules, and their text is
-- written to the other.
pub record Start (M W : Type 0) : Type 0 where
  pub rules : List RuleValue
  pub machine : M
  pub target : W

-- the start with these rules, this machine and this target
abbrev pub start_with : {M W : Type 0} → List RuleValue → M → W → Start M W
start_with rules machine target = record { rules = rules; machine = machine; target = target }

-- What a machine is told under rules that was `machine_start` at the start.
module _ {A M : Type 0} (machine : MachineGhosts M A) (rules : List RuleValue) where
  -- Nothing was told: the machine is what it was and stands there, no message was judged or left out, and nothing is on
  -- the sheet.
  pub record HasToldNothing (machine_start : M) (telling : Telling M) : Type 0 where
    pub machine_is : telling.machine ≡ machine_start
    pub stands_at_start : machine.stands rules machine_start [] machine_start
    pub judged : IsJudgeOf [] telling.judge
    pub none_left_out : telling.ruling.left_out ≡ 0
    pub well : telling.sheet.failed ≡ false
    pub blank : telling.sheet.gathered ≡ []

  -- what is said of the frames of a trace
  abbrev pub said_since : M → List Entry → List ℕ
  said_since machine_start T = said_of_frames (machine.script rules machine_start).of_frame T

  -- where the machine is strict, no frame of the trace announces a message above the limit
  abbrev pub AreWithin : M → List Entry → Type 0
  AreWithin machine_start T = (machine.script rules machine_start).strict ≡ true → AllByRecursion AnnouncesWithin T

-- What was written of it. A telling is what it is now, as `now` is the target.
module _ {A M W : Type 0} (machine : MachineGhosts M A) (target : TargetGhosts W) where
  -- The frames of the trace were told; of a strict script none announces a message above the limit.
  pub record HasTold (start : Start M W) (T : List Entry) (telling : Telling M) (now : W) : Type 0 where
    pub judged : HasJudged start.rules T telling.judge telling.ruling.left_out
    pub machine_stands : machine.stands start.rules start.machine T telling.machine
    pub within : AreWithin machine start.rules start.machine T
    pub carried : HasSaid target start.target (said_since machine start.rules start.machine T) telling.sheet now

  -- the frames of the trace were told, and all that was said of them is written, or writing failed
  abbrev pub HasToldAndWritten : Start M W → List Entry → Telling M → Bool → W → Type 0
  HasToldAndWritten start T telling failed now = HasTold start T (record telling { sheet = blank_sheet failed }) now

  -- At least what is said of this trace was written; and after it, what was said to the sheet.
  pub record HasWrittenAtLeast (start : Start M W) (T : List Entry) (telling : Telling M) (now : W) : Type 0 where
    pub within : AreWithin machine start.rules start.machine T
    pub mid : W
    pub said : List ℕ
    pub wrote : target.taken mid ≡ target.taken start.target ++ said_since machine start.rules start.machine T
    pub carried : HasSaid target mid said telling.sheet now

  -- The frames of the trace were told, and the run stopped at the frame e, of which nothing was said.
  pub record HasStopped (start : Start M W) (T : List Entry) (e : Entry) (why : Fault) (telling : Telling M) (now : W)
      : Type 0 where
    pub within : AreWithin machine start.rules start.machine T
    pub reason :
        StopsFor (machine.script start.rules start.machine).strict start.rules (machine.needs start.rules start.machine) T e why
    pub carried : HasSaid target start.target (said_since machine start.rules start.machine T) telling.sheet now

  -- What is due was written before more is read, or that failed, as `settled` answers.
  pub record SettlesTold (before : Telling M) (old : W) (settled : Bool) (after : Telling M) (new : W) : Type 0 where
    pub well : settled ≡ true → (start : Start M W) (T : List Entry) → HasTold start T before old
        → HasToldAndWritten start T after false new × HasTold start T after new
    pub wrong : settled ≡ false → (start : Start M W) (T : List Entry) → HasTold start T before old
        → HasToldAndWritten start T after true new
    pub sure : settled ≡ true → (start : Start M W) (T : List Entry) → HasTold start T before old
        → HasWrittenAtLeast start T after new
    -- whatever was written before is
    pub kept : (start : Start M W) (earlier : List Entry) → HasWrittenAtLeast start earlier before old
        → HasWrittenAtLeast start earlier after new

  -- The frame e was told under these rules after the frames T, or the run stopped at it. Whatever was written before
  -- is.
  pub record TellsFrame {B : Type 0} (rules : List RuleValue) (T : List Entry) (e : Entry)
      (before : Telling M) (old : W) (result : Result B Fault) (after : Telling M) (new : W) : Type 0 where
    pub ok : OnOk result ((start : Start M W) → start.rules ≡ rules
        → HasTold start T before old → HasTold start (T ++ e ∷ []) after new)
    pub err : IfErr result (λ why. (start : Start M W) → start.rules ≡ rules
        → HasTold start T before old → HasStopped start T e why after new)
    pub kept : (start : Start M W) (earlier : List Entry) → start.rules ≡ rules
        → HasTold start T before old → HasWrittenAtLeast start earlier before old
        → HasWrittenAtLeast start earlier after new

  -- so it is of any frame that did this, whatever frames came before
  abbrev pub TellsEvent : {B : Type 0}
      → List RuleValue → FrameEvent → Telling M → W → Result B Fault → Telling M → W → Type 0
  TellsEvent rules frame before old result after new =
      (T : List Entry) (e : Entry) → IsFrameEvent T e frame → TellsFrame rules T e before old result after new
