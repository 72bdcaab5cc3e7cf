-- The outcome of a log: accepted with its canonical log and summary, or refused.
use Rattle.std.specs.Prelude.{◌≡◌, ℕ, ◌<◌, ◌≤◌, List, length, Option, Result, Ok, Err}
use Rattle.can_log.specs.Log.{LogMeans}
use Rattle.can_log.specs.declared.frame.Stamped.{Stamped}
use Rattle.trace_log.specs.declared.summary.Summary.{Summary}
use Rattle.trace_log.specs.Settings.{Settings}
use Rattle.trace_log.specs.CanonicalLog.{canonical_log_of_lines}
use Rattle.trace_log.specs.Refusal.{Refusal, bad_line, oversize_message, long_log, long_canonical_log, EachWithin, IsBadLine, IsOversizeLine, IsNotRefused}
use Rattle.trace_log.specs.Summing.{summary_of}

-- the text and the summary of an accepted log
pub record Accepted : Type 0 where
  pub text : List ℕ
  pub summary : Summary

-- The whole log is read: it is within its limit and legal, its lines mean this, and none announces too much.
pub record IsReadWhole (limit : ℕ) (settings : Settings) (log : List ℕ) (meanings : List (Option Stamped)) : Type 0 where
  pub short : length log ≤ settings.max_bytes
  pub means : LogMeans log meanings
  pub within : EachWithin limit settings meanings

-- The text and the summary are those of a log whose lines mean this, and the text is within the limit.
pub record IsAcceptedAs (limit : ℕ) (settings : Settings) (log : List ℕ) (meanings : List (Option Stamped)) (accepted : Accepted) : Type 0 where
  pub spelled : accepted.text ≡ canonical_log_of_lines limit settings meanings
  pub fits : length accepted.text ≤ settings.max_bytes
  pub counted : accepted.summary ≡ summary_of limit settings log meanings

-- The outcome of a log: refused at the first thing that refuses it, a place or a line that announces too much; else where
-- it is longer than the limit; else where its canonical log is longer than the limit; and else accepted with that text.
abbrev pub IsOutcome : ℕ → Settings → List ℕ → Result Accepted Refusal → Type 0
IsOutcome limit settings log (Err (bad_line line column)) = IsBadLine limit settings log line column
IsOutcome limit settings log (Err (oversize_message line announced)) = IsOversizeLine limit settings log line announced
IsOutcome limit settings log (Err long_log) = IsNotRefused limit settings log × (settings.max_bytes < length log)
IsOutcome limit settings log (Err long_canonical_log) =
    (meanings : List (Option Stamped)) × IsReadWhole limit settings log meanings × (settings.max_bytes < length (canonical_log_of_lines limit settings meanings))
IsOutcome limit settings log (Ok accepted) =
    (meanings : List (Option Stamped)) × IsReadWhole limit settings log meanings × IsAcceptedAs limit settings log meanings accepted
