-- The counts of a report: of the log, of its items, and of what is missing.
use Rattle.std.specs.Prelude.{ℕ, true, ◌==◌, not, Bool, false, List, [], ◌++◌, codes, if◌then◌else◌}
use Rattle.std.specs.Fmt.{decimal}
use Rattle.trace_report.specs.Sorts.{needs_attention}
use Rattle.trace_report.specs.declared.tally.SortCounts.{SortCounts}
use Rattle.trace_report.specs.declared.sorts.Sort.{Sort}
use Rattle.trace_report.specs.declared.sorts.Sort.TheVariants as sort
use Rattle.trace_log.specs.declared.summary.Summary.{Summary}

-- the look of a count: faint where it is 0, and strong where what it counts needs attention
abbrev pub count_class : Bool → ℕ → List ℕ
count_class needs count = if count == 0 then codes " class=\"zero\"" else if needs then codes " class=\"hot\"" else []

-- a count under this name, and whether what it counts needs attention
abbrev pub count_line : Bool → List ℕ → ℕ → List ℕ
count_line needs words count =
    codes "<div" ++ count_class needs count ++ codes "><dt>" ++ words ++ codes "</dt><dd>" ++ decimal count ++ codes "</dd></div>\n"

-- the count of the rows of a sort, under this name
abbrev pub sort_count : Sort → List ℕ → ℕ → List ℕ
sort_count kind words count = count_line (needs_attention kind) words count

-- how many messages of the log rules left out, where they left out one
abbrev pub left_out_count : ℕ → List ℕ
left_out_count count = if not (count == 0) then count_line false (codes "left out") count else []

-- how many lines, frames and messages the log has, and how many messages rules left out
abbrev pub log_counts : Summary → List ℕ
log_counts summary =
    count_line false (codes "lines") summary.lines ++ count_line false (codes "frames") summary.frames
    ++ count_line false (codes "messages") summary.messages ++ left_out_count summary.left_out

-- how many requests to all units have no answer, where one has none
abbrev pub to_all_units_count : ℕ → List ℕ
to_all_units_count count = if not (count == 0) then sort_count sort.ToAllUnits (codes "no answer (all units)") count else []

-- how many requests the rows tell, and how these were answered
abbrev pub answer_counts : SortCounts → List ℕ
answer_counts counts =
    sort_count sort.Requests (codes "requests") counts.requests ++ sort_count sort.Positives (codes "positive") counts.positives
    ++ sort_count sort.Negatives (codes "negative") counts.negatives ++ sort_count sort.Unanswered (codes "no answer") counts.unanswered
    ++ to_all_units_count counts.to_all_units ++ sort_count sort.Silent (codes "silent") counts.silent

-- how many messages the rows tell that are neither requests nor answers
abbrev pub other_counts : SortCounts → List ℕ
other_counts counts =
    sort_count sort.Pendings (codes "pending") counts.pendings ++ sort_count sort.KeepAlives (codes "keep-alive") counts.keep_alives
    ++ sort_count sort.Strays (codes "stray") counts.strays

-- how many frames were dropped, and how many messages are not whole
abbrev pub lost_counts : SortCounts → List ℕ
lost_counts counts =
    sort_count sort.Dropped (codes "dropped") counts.dropped ++ sort_count sort.Ended (codes "ended") counts.ended
    ++ sort_count sort.Unfinished (codes "unfinished") counts.unfinished

-- how many answers are other than was asked, where one is
abbrev pub other_answers_count : ℕ → List ℕ
other_answers_count count = if not (count == 0) then count_line true (codes "other than asked") count else []

-- all counts of a page: of the log, of its items, with how many answers are other than was asked, and of what is missing
abbrev pub counts_with : ℕ → SortCounts → Summary → List ℕ
counts_with others counts summary =
    codes "<dl class=\"counts\">\n" ++ log_counts summary ++ answer_counts counts ++ other_answers_count others ++ other_counts counts
    ++ lost_counts counts ++ codes "</dl>\n"

-- all counts of a page that tells of no answer whether it is other than was asked
abbrev pub counts_text : SortCounts → Summary → List ℕ
counts_text counts summary = counts_with 0 counts summary
