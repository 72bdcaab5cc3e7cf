-- Exit statuses.
use Rattle.std.specs.Prelude.{ℕ, Bool, ◌==◌}
use Rattle.trace_log.specs.declared.fault.Fault.{Fault}
use Rattle.trace_log.specs.declared.fault.Fault.TheVariants as fault

-- 3 where a log is refused, 4 where a device failed, 5 where memory was refused
abbrev pub status_of : Fault → ℕ
status_of (fault.BadLine line column) = 3
status_of (fault.Oversize line announced) = 3
status_of fault.LogLimit = 3
status_of fault.OutputLimit = 3
status_of fault.Read = 4
status_of fault.Write = 4
status_of fault.Memory = 5

-- the log is refused, by what it says or by how long it is
abbrev pub is_refusal : Fault → Bool
is_refusal fault = status_of fault == 3
