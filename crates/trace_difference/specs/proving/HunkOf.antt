-- Devices of proof: a hunk by its parts.
use Rattle.std.specs.Prelude.{ℕ, List}
use Rattle.uds_difference.specs.declared.row.Row.{Row}
use Rattle.shown_rows.specs.Hunks.{Hunk}

-- a hunk of these rows, before which so many items of both sessions stand
abbrev pub hunk_of : ℕ → ℕ → List Row → Hunk
hunk_of left right rows = record { left = left; right = right; rows = rows }
