-- What is answered of two logs that are kept: what each of them says, or why one of them can't be read.
use Rattle.std.specs.Prelude.{◌≡◌, ℕ, ⊤, List, Option, Result, Ok, Err}
use Rattle.can_log.specs.declared.frame.Stamped.{Stamped}
use Rattle.trace_log.specs.Needing.{HasFrame}
use Rattle.trace_log.specs.Settings.{Settings}
use Rattle.trace_log.specs.Summing.{summary_of}
use Rattle.trace_run.specs.Stopping.{CantBeRead}
use Rattle.trace_log.specs.ReadAs.{IsReadAs}
use Rattle.trace_log.specs.Trace.{trace}
use Rattle.trace_log.specs.declared.fault.CompareFault.{CompareFault}
use Rattle.trace_log.specs.declared.fault.CompareFault.TheVariants.{Left, Right}
use Rattle.trace_log.specs.declared.fault.Fault.{Fault}
use Rattle.trace_report.specs.Session.{SessionValue, session_of}

-- What two logs say, which are kept.
pub record KeptSessionsValue : Type 0 where
  pub left : SessionValue
  pub right : SessionValue

-- What is answered of a log: what it says, where it can be read to its end, and else why it can't. No length that is
-- announced and no canonical log refuses it.
abbrev pub KeepsOne : ℕ → Settings → List ℕ → Result SessionValue Fault → Type 0
KeepsOne limit settings log (Ok session) =
    (meanings : List (Option Stamped)) × IsReadAs settings log (Ok meanings)
    × (session ≡ session_of limit settings.rules (trace settings meanings) (summary_of limit settings log meanings))
KeepsOne limit settings log (Err fault) = CantBeRead settings log fault

-- What is answered of two logs: what both say; else why the first can't be read; or why the second can't, where the
-- first can.
abbrev pub KeepsTwo : ℕ → Settings → List ℕ → List ℕ → Result KeptSessionsValue CompareFault → Type 0
KeepsTwo limit settings one other (Ok two) = KeepsOne limit settings one (Ok two.left) × KeepsOne limit settings other (Ok two.right)
KeepsTwo limit settings one other (Err (Left fault)) = KeepsOne limit settings one (Err fault)
KeepsTwo limit settings one other (Err (Right fault)) =
    ((session : SessionValue) × KeepsOne limit settings one (Ok session)) × KeepsOne limit settings other (Err fault)

-- the log has a frame of one of the two sides
abbrev pub HasOwnFrame : Settings → List ℕ → Type 0
HasOwnFrame = HasFrame (λ T e. ⊤)
