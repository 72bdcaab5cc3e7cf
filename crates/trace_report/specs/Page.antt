-- The text of a report: a front, the rows of the trace in blocks, and an end. It is told as the log is read: with the
-- first frame the front, with each frame its rows, and at the end of the log, or where it is refused, the rest.
use Rattle.std.specs.Prelude.{ℕ, false, List, [], ◌∷◌, ◌++◌, codes, Option}
use Rattle.isotp_receive.specs.Trace.{Entry}
use Rattle.isotp_receive.specs.Verdict.{messages}
use Rattle.uds_rules.specs.Rule.{RuleValue}
use Rattle.trace_report.specs.declared.blocks.Blocks.{Blocks}
use Rattle.trace_report.specs.declared.cause.RefusalCause.{RefusalCause}
use Rattle.trace_log.specs.declared.summary.Summary.{Summary}
use Rattle.trace_report.specs.AnswerTimes.{slowest_in}
use Rattle.trace_report.specs.Blocks.{block_end, blocks_of}
use Rattle.trace_report.specs.Chart.{rows_text}
use Rattle.trace_report.specs.Causes.{cause_of}
use Rattle.trace_report.specs.Events.{frame_rows, end_rows, rows_of}
use Rattle.trace_report.specs.Front.{PageTitleValue, front_text}
use Rattle.trace_report.specs.OtherAnswers.{last_asked, others_of}
use Rattle.trace_report.specs.Help.{help_text}
use Rattle.trace_report.specs.Rows.{RowValue}
use Rattle.trace_report.specs.RuleWords.{rules_text}
use Rattle.trace_report.specs.Sorts.{has_answers, tally_of}
use Rattle.trace_report.specs.Verdict.{FindingsValue, refused_verdict, stop_line, verdict_text}
use Rattle.trace_log.specs.declared.fault.Fault.{Fault}
use Rattle.trace_run.specs.Script.{GlimpseValue, RefusalText, Script}
use Rattle.trace_run.specs.Spoken.{spoken_counts}

-- the time of the first frame of a trace; 0 where it has none
abbrev pub first_time : List Entry → ℕ
first_time [] = 0
first_time (e ∷ rest) = e.micros

-- the time of the last frame of a trace; an earlier one where it has none
abbrev pub last_time : ℕ → List Entry → ℕ
last_time earlier [] = earlier
last_time earlier (e ∷ rest) = last_time e.micros rest

-- what stands before the rows of a frame: before those of the first one the front of the page
abbrev pub front_before : PageTitleValue → List Entry → List ℕ
front_before title [] = front_text title
front_before title (e ∷ rest) = []

-- the text of rows behind those of the frames T, where `origin` is the time of the first frame
abbrev pub rows_after : PageTitleValue → ℕ → List RuleValue → ℕ → List Entry → List RowValue → List ℕ
rows_after title limit rules origin T rows = rows_text title.rules origin (blocks_of (rows_of limit rules T)) (last_asked (rows_of limit rules T)) rows

-- what is told of the frame e after the frames T: its rows, and before the first frame the front of the page
abbrev pub frame_text : PageTitleValue → ℕ → List RuleValue → List Entry → Entry → List ℕ
frame_text title limit rules T e =
    front_before title T ++ rows_after title limit rules (first_time (T ++ e ∷ [])) T (frame_rows limit rules T e)

-- all rows of a log that was read to its end
abbrev pub all_rows : ℕ → List RuleValue → List Entry → List RowValue
all_rows limit rules T = rows_of limit rules T ++ end_rows limit rules T

-- what stands behind the blocks of rows, with this verdict, of a log of which this was found
abbrev pub behind_blocks : FindingsValue → List ℕ → List ℕ
behind_blocks found verdict = codes "</main>\n" ++ rules_text found.rules found.spoken ++ verdict ++ help_text (has_answers found.tally.counts)

-- the end of a page, behind rows that left these blocks, of a log of which this was found
abbrev pub page_end : Blocks → FindingsValue → List ℕ
page_end blocks found = block_end blocks.count ++ behind_blocks found (verdict_text found)

-- the end of the page of a log that is refused, behind rows that left these blocks, by what was found of the lines
-- before
abbrev pub refused_end : Fault → Option RefusalCause → Blocks → FindingsValue → List ℕ
refused_end why cause blocks found =
    block_end blocks.count ++ stop_line why ++ behind_blocks found (refused_verdict why cause found)

-- what was found under rules of a log with these rows, this trace and these counts
abbrev pub findings_of : ℕ → List RuleValue → List RowValue → List Entry → Summary → FindingsValue
findings_of limit rules rows T summary = record {
  rules = rules;
  spoken = spoken_counts rules (messages limit T);
  tally = tally_of rows;
  summary = summary;
  first = first_time T;
  last = last_time 0 T;
  slowest = slowest_in rows;
  others = others_of rules rows;
}

-- the end of a page with this title, behind these rows
abbrev pub page_end_behind : PageTitleValue → ℕ → List RowValue → List Entry → Summary → List ℕ
page_end_behind title limit rows T summary = page_end (blocks_of rows) (findings_of limit title.rules rows T summary)

-- what is told at the end of a log
abbrev pub last_text : PageTitleValue → ℕ → List RuleValue → List Entry → Summary → List ℕ
last_text title limit rules T summary =
    front_before title T ++ rows_after title limit rules (first_time T) T (end_rows limit rules T)
    ++ page_end_behind title limit (all_rows limit rules T) T summary

-- what is told where a log is refused for this reason, behind the frames T, with its cause by what is seen of the
-- source. What is open there is neither unfinished nor without an answer: so no row is told of it.
abbrev pub refused_text : PageTitleValue → ℕ → List RuleValue → GlimpseValue → RefusalText
refused_text title limit rules source T summary why =
    front_before title T ++ refused_end why (cause_of why title.max_bytes source) (blocks_of (rows_of limit rules T))
    (findings_of limit title.rules (rows_of limit rules T) T summary)

-- what a report tells: of each frame its text, and at the end of the log the last one
abbrev pub report_script : PageTitleValue → ℕ → List RuleValue → Script
report_script title limit rules =
    record { strict = false; of_frame = frame_text title limit rules; at_the_end = last_text title limit rules }
