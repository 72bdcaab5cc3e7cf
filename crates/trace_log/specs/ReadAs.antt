-- What a log is read as where no length that is announced refuses it: its lines, or why it can't be read.
use Rattle.std.specs.Prelude.{ℕ, ◌<◌, ◌≤◌, Bool, true, List, length, Option, Result, Ok, Err}
use Rattle.can_log.specs.Log.{LogMeans}
use Rattle.can_log.specs.declared.frame.Stamped.{Stamped}
use Rattle.trace_log.specs.Settings.{Settings}
use Rattle.trace_log.specs.Refusal.{CountsAsBad}

-- the test that passes on every line
abbrev pub takes_all : Option Stamped → Bool
takes_all what = true

-- Why a log can't be read.
pub data Unreadable : Type 0 where
  -- it is no log: the line and the column of its refused place
  no_line : ℕ → ℕ → Unreadable
  -- it has more bytes than its limit
  too_long : Unreadable

-- the log can't be read where its refused place counts; else where it is longer than the limit; and else its lines mean
-- this
abbrev pub IsReadAs : Settings → List ℕ → Result (List (Option Stamped)) Unreadable → Type 0
IsReadAs settings log (Ok meanings) = (length log ≤ settings.max_bytes) × LogMeans log meanings
IsReadAs settings log (Err (no_line line column)) = CountsAsBad settings log line column
IsReadAs settings log (Err too_long) = ((line column : ℕ) → ¬ CountsAsBad settings log line column) × (settings.max_bytes < length log)
