-- Devices of proof: what is answered of two logs that were kept, before and after they are set side by side.
use Rattle.std.specs.Prelude.{◌≡◌, ◌≢◌, ◌⊎◌, [], Result, Ok, Err}
use Rattle.trace_log.specs.declared.fault.CompareFault.{CompareFault}
use Rattle.trace_log.specs.declared.fault.CompareFault.TheVariants.{Right}
use Rattle.trace_log.specs.declared.fault.Fault.TheVariants.{Memory}
use Rattle.trace_report.specs.Kept.{KeptSessionsValue}
use Rattle.trace_pair.specs.Sessions.{values_in}

-- it is the same, but where memory is refused for that, of sessions of which one has an item
abbrev pub IsSetBeside : Result KeptSessionsValue CompareFault → Result KeptSessionsValue CompareFault → Type 0
IsSetBeside (Ok held) (Ok beside) = beside ≡ held
IsSetBeside (Ok held) (Err fault) = (fault ≡ Right Memory) × ((values_in held.left ≢ []) ⊎ (values_in held.right ≢ []))
IsSetBeside (Err why) (Ok beside) = ⊥
IsSetBeside (Err why) (Err fault) = fault ≡ why
