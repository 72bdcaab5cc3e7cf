-- Why a log is refused beyond the place: what it looks like, where it is no log, that its last line is cut, that a line
-- lacks its stamp, or that it passes the limit. A hint and a page say the same of it, by one table.
use Rattle.std.specs.Prelude.{ℕ, nat_lt, Bool, true, false, List, [], ◌++◌, codes, Option, Some, None, option_map, if◌then◌else◌}
use Rattle.std.specs.Fmt.{decimal}
use Rattle.trace_log.specs.declared.config.TheConstants.{LARGEST_LIMIT}
use Rattle.trace_log.specs.declared.fault.Fault.{Fault}
use Rattle.trace_log.specs.declared.fault.Fault.TheVariants.{BadLine, Oversize, LogLimit, OutputLimit, Read, Write, Memory}
use Rattle.trace_report.specs.Looks.{lacks_stamp, look_of, look_row}
use Rattle.trace_report.specs.declared.cause.RefusalCause.{RefusalCause}
use Rattle.trace_report.specs.declared.cause.RefusalCause.TheVariants as cause
use Rattle.trace_report.specs.declared.cause.CauseRow.{CauseRow}
use Rattle.trace_run.specs.Script.{GlimpseValue}

-- The cause of a log that is refused at this place. Where its source is over, nothing before the end was refused: the
-- last line is cut. Else a line lacks its stamp, or the log looks like something else, or nothing is known.
abbrev pub cause_of_place : GlimpseValue → ℕ → ℕ → Option RefusalCause
cause_of_place source line column =
    if source.is_over then Some cause.Cut
    else if lacks_stamp source.first line column then Some (cause.NoStamp line)
    else option_map (λ look. cause.Looks look) (look_of source.first line column)

-- the cause of a log that passes this limit: the limit, where a larger one can be given
abbrev pub cause_of_limit : ℕ → Option RefusalCause
cause_of_limit max_bytes = if nat_lt max_bytes LARGEST_LIMIT then Some (cause.Limit max_bytes) else None

-- the cause of a fault over a log with this limit, by what is seen of its source
abbrev pub cause_of : Fault → ℕ → GlimpseValue → Option RefusalCause
cause_of (BadLine line column) max_bytes source = cause_of_place source line column
cause_of LogLimit max_bytes source = cause_of_limit max_bytes
cause_of OutputLimit max_bytes source = cause_of_limit max_bytes
cause_of (Oversize line announced) max_bytes source = None
cause_of Read max_bytes source = None
cause_of Write max_bytes source = None
cause_of Memory max_bytes source = None

-- What is said of a cause: words, a number if there is one, words, the name of the log where it is said, what it is,
-- and what mends it.
pub record CauseRowValue : Type 0 where
  pub before : List ℕ
  pub number : Option ℕ
  pub between : List ℕ
  pub is_named : Bool
  pub words : List ℕ
  pub command : List ℕ

-- what is said of a cause, without where its words lie in memory
abbrev pub row_value : CauseRow → CauseRowValue
row_value row = record {
  before = row.before.now;
  number = row.number;
  between = row.between.now;
  is_named = row.is_named;
  words = row.words.now;
  command = row.command.now;
}

-- the table of causes: what is said of each
abbrev pub row_of_cause : RefusalCause → CauseRowValue
row_of_cause (cause.Looks look) =
    record { before = []; number = None; between = []; is_named = true; words = (look_row look).words; command = (look_row look).command }
row_of_cause cause.Cut = record {
  before = codes "the last line of ";
  number = None;
  between = [];
  is_named = true;
  words = codes "looks cut";
  command = codes "sed '$d' leaves it out, and a frame is missing";
}
row_of_cause (cause.NoStamp line) = record {
  before = codes "line ";
  number = Some line;
  between = codes " of ";
  is_named = true;
  words = codes "begins with no stamp";
  command = codes "if it is a notice of candump -d, grep -v ^DROPCOUNT leaves it out";
}
row_of_cause (cause.Limit max_bytes) = record {
  before = codes "the limit is ";
  number = Some max_bytes;
  between = codes " bytes";
  is_named = false;
  words = [];
  command = codes "--limit sets it, up to 1099511627776";
}

-- a number, where there is one
abbrev pub number_text : Option ℕ → List ℕ
number_text None = []
number_text (Some number) = decimal number

-- the name of a log before what is said of it, where it is said
abbrev pub named_text : Bool → List ℕ → List ℕ
named_text is_named name = if is_named then name ++ codes " " else []

-- the text of a row of the table of causes, for a log with this name
abbrev pub cause_row_text : CauseRowValue → List ℕ → List ℕ
cause_row_text row name =
    row.before ++ number_text row.number ++ row.between ++ named_text row.is_named name ++ row.words ++ codes "; " ++ row.command

-- what is said of the cause of a refusal, for a log with this name
abbrev pub refusal_cause_text : RefusalCause → List ℕ → List ℕ
refusal_cause_text why name = cause_row_text (row_of_cause why) name

-- the line of a page that tells the cause of a refusal, where one is known
abbrev pub cause_line : Option RefusalCause → List ℕ
cause_line None = []
cause_line (Some why) = codes "<p><b>Cause:</b> " ++ refusal_cause_text why (codes "this log") ++ codes ".</p>\n"
