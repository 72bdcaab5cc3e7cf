-- How long a request waited for its answer.
use Rattle.std.specs.Prelude.{ℕ, ◌-◌, Option, Some, None, nat_le, if◌then◌else◌}

-- How many microseconds a request waited: from its last frame to the first one of its answer. Of an answer that began before
-- the request ended, by the clock of the log, nothing is told.
abbrev pub waited : ℕ → ℕ → Option ℕ
waited asked began = if nat_le asked began then Some (began - asked) else None
