-- What is said of a log that is explained, in the order of the log.
use Rattle.std.specs.Prelude.{ℕ, false, List, [], ◌++◌, Option, Some, None, option_map}
use Rattle.direction.specs.declared.Dir.{Dir}
use Rattle.direction.specs.declared.Dir.TheVariants as dir
use Rattle.isotp_receive.specs.Channels.{dir_of}
use Rattle.isotp_receive.specs.declared.event.Ended.{Ended}
use Rattle.isotp_receive.specs.StandingReception.{StandingReception, Receptions, receptions_after}
use Rattle.isotp_receive.specs.Verdict.{VerdictValue, EventValue, message, began, stored, flowed, dropped, verdict}
use Rattle.trace_text.specs.declared.notation.Notation.{Notation}
use Rattle.trace_text.specs.declared.remark.Remark.TheVariants as remark
use Rattle.trace_log.specs.declared.summary.Summary.{Summary}
use Rattle.trace_text.specs.RemarkLines.{remark_text}
use Rattle.trace_run.specs.Script.{Script}

-- what is said of a reception that the frame of this line ended, if it ended one
abbrev pub ended_text : Notation → ℕ → Option Ended → List ℕ
ended_text notation line None = []
ended_text notation line (Some ended) = remark_text notation (remark.Ended line ended)

-- what is said of a frame of this line, sent by this side, if it was dropped
abbrev pub dropped_text : Notation → ℕ → Dir → VerdictValue → List ℕ
dropped_text notation line d (dropped reason) = remark_text notation (remark.Dropped line d reason)
dropped_text notation line d (message bytes) = []
dropped_text notation line d began = []
dropped_text notation line d stored = []
dropped_text notation line d flowed = []

-- the lines of a frame: what it ended, and then that it was dropped
abbrev pub event_text : Notation → ℕ → Dir → EventValue → List ℕ
event_text notation line d event = ended_text notation line event.ended ++ dropped_text notation line d event.verdict

-- the line and the announced length of the first frame of a reception
abbrev pub begun_with : StandingReception → ℕ × ℕ
begun_with standing = (standing.line, standing.len)

-- the line of a reception that stands at the end, by its beginning, if one does
abbrev pub unfinished_line : Notation → Dir → Option (ℕ × ℕ) → List ℕ
unfinished_line notation d None = []
unfinished_line notation d (Some begun) = remark_text notation (remark.Unfinished d begun.0 begun.1)

-- the lines of the receptions that stand, the tester's first
abbrev pub unfinished_text : Notation → Receptions → List ℕ
unfinished_text notation receptions =
    unfinished_line notation dir.Tester (option_map begun_with receptions.tester)
    ++ unfinished_line notation dir.Unit (option_map begun_with receptions.unit)

-- what follows the lines of all frames
abbrev pub ending_text : Notation → Receptions → Summary → List ℕ
ending_text notation receptions summary = unfinished_text notation receptions ++ remark_text notation (remark.Counts summary)

-- what `explain` says: of each frame its lines, and at the end the receptions that stand, and the counts
abbrev pub explain_script : Notation → ℕ → Script
explain_script notation limit = record {
  strict = false;
  of_frame = λ T e. event_text notation e.line (dir_of e.channel) (verdict limit T e);
  at_the_end = λ T summary. ending_text notation (receptions_after limit T) summary;
}
