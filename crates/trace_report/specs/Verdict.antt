-- The verdict of a report: whether the recording is clean, what needs attention, and all counts. It is known at the
-- end, and written there; the style shows it first.
use Rattle.std.specs.Fmt.{decimal}
use Rattle.std.specs.Prelude.{ℕ, ◌==◌, ◌&&◌, ◌||◌, not, Bool, List, [], ◌∷◌, ◌++◌, codes, Option, if◌then◌else◌}
use Rattle.trace_text.specs.Words.{stamp_text}
use Rattle.trace_report.specs.Causes.{cause_line}
use Rattle.trace_report.specs.Counts.{counts_with}
use Rattle.trace_report.specs.Links.{attention_text}
use Rattle.trace_report.specs.Durations.{seconds_between}
use Rattle.trace_report.specs.SlowestLines.{slowest_text}
use Rattle.slow_answers.specs.declared.answer.SlowAnswer.{SlowAnswer}
use Rattle.trace_log.specs.Summing.{is_clean, lacks_line_feed}
use Rattle.trace_report.specs.declared.cause.RefusalCause.{RefusalCause}
use Rattle.trace_report.specs.declared.other_answers.OtherAnswers.{OtherAnswers}
use Rattle.trace_report.specs.declared.tally.SortCounts.{SortCounts}
use Rattle.trace_report.specs.declared.tally.Tally.{Tally}
use Rattle.trace_log.specs.declared.fault.Fault.{Fault}
use Rattle.trace_log.specs.declared.fault.Fault.TheVariants as fault
use Rattle.trace_log.specs.declared.summary.Summary.{Summary}
use Rattle.uds_rules.specs.Rule.{RuleValue}

-- a text, where what it says is so
abbrev pub clause : Bool → List ℕ → List ℕ
clause holds text = if holds then text else []

-- the words of a verdict on the time that a log spans, from the first frame to the last one
abbrev pub span_text : ℕ → ℕ → List ℕ
span_text first last =
    codes "<p class=\"span\">First frame at " ++ stamp_text first ++ codes ", last at " ++ stamp_text last ++ codes " by the clock of the log: "
    ++ seconds_between first last ++ codes " s.</p>\n"

-- the time that a log of so many frames spans, where it has frames
abbrev pub span_of : ℕ → ℕ → ℕ → List ℕ
span_of frames first last = if frames == 0 then [] else span_text first last

-- the head of a verdict, up to its words: the class of the style that colours it, and the sign before its words
abbrev pub verdict_front : List ℕ → List ℕ → List ℕ
verdict_front class sign = codes "<section id=\"verdict\" class=\"" ++ class ++ codes "\">\n<h2><span aria-hidden=\"true\">" ++ sign ++ codes "</span> "

-- the heading of a clean recording: nothing of the two sides is known to be missing
abbrev pub clean_verdict : List ℕ
clean_verdict =
    verdict_front (codes "good") (codes "&#10003;") ++ codes "The recording is clean</h2>\n"
    ++ codes "<p>No frame of the two identifiers was dropped, and no message is in part."

-- a page calls the recording clean: it is clean, and its sides don't look exchanged
abbrev pub is_called_clean : Summary → Bool
is_called_clean summary = is_clean summary && not summary.looks_exchanged

-- something of what was recorded is in part
abbrev pub is_partial : Summary → Bool
is_partial summary = not (summary.dropped == 0) || (not (summary.ended == 0) || not (summary.unfinished == 0))

-- what was lost of the frames of a recording, in the words that `--strict` tells it
abbrev pub lost_words : Summary → List ℕ
lost_words summary =
    codes "<em>frames " ++ decimal summary.frames ++ codes " dropped " ++ decimal summary.dropped ++ codes " ended " ++ decimal summary.ended
    ++ codes " unfinished " ++ decimal summary.unfinished

-- what a recording lacks, in the words that `--strict` tells it
abbrev pub lacking_words : Summary → List ℕ
lacking_words summary =
    clause (summary.tester_frames == 0) (codes ", no frame of the tester") ++ clause (summary.unit_frames == 0) (codes ", no frame of the unit")
    ++ clause (lacks_line_feed summary) (codes ", no line feed at the end") ++ codes ".</em>"

-- what was lost of a recording and what it lacks, in the words that `--strict` tells it
abbrev pub strict_words : Summary → List ℕ
strict_words summary = lost_words summary ++ lacking_words summary

-- the options that say which identifiers are meant
abbrev pub options_words : List ℕ
options_words = codes "<code>--tester</code> and <code>--unit</code>."

-- what it means that no frame is of the two sides
abbrev pub empty_words : Bool → List ℕ
empty_words has_no_line =
    if has_no_line then codes " The log is empty: it has no line."
    else codes " Either no line has a frame, or other identifiers are meant: see " ++ options_words

-- the words of a log without rules, and those of what rules leave of one
abbrev pub words_under : List RuleValue → List ℕ → List ℕ → List ℕ
words_under [] whole left = whole
words_under (rule ∷ rules) whole left = left

-- what it means that tester and unit look exchanged in what rules leave, behind what else there is to say
abbrev pub exchanged_words : List RuleValue → Summary → List ℕ
exchanged_words rules summary =
    clause (not (is_clean summary)) (codes " ") ++ words_under rules (codes "No message is a request") (codes "Of what the rules leave, no message is a request")
    ++ codes ": the tester sent responses, and the unit messages that are none. See " ++ options_words

-- what it means for the messages of a page that a recording is not called clean
abbrev pub meaning_words : List RuleValue → Summary → List ℕ
meaning_words rules summary =
    clause (is_partial summary) (codes " Frames are missing, late, out of order or of no legal form. Messages that they belonged to are not below.")
    ++ clause (lacks_line_feed summary) (codes " The log ends inside its last line: it may be cut.")
    ++ clause (summary.frames == 0) (empty_words (summary.lines == 0)) ++ clause summary.looks_exchanged (exchanged_words rules summary)

-- each reason why a log is not called clean: a frame of each side is wanted, all of what they sent, the end of the last
-- line, and that the sides don't look exchanged
abbrev pub unclean_reasons : List RuleValue → Summary → List ℕ
unclean_reasons rules summary = clause (not (is_clean summary)) (strict_words summary) ++ meaning_words rules summary

-- the words of the heading of a log that has no frame of the two sides, or whose sides look exchanged, or that is not
-- clean
abbrev pub start_words : Summary → List ℕ
start_words summary =
    if summary.frames == 0 then codes "No frame of the tester or the unit"
    else if is_clean summary then codes "Tester and unit look exchanged"
    else codes "The recording is not clean" ++ clause summary.looks_exchanged (codes ", and tester and unit look exchanged")

-- that heading
abbrev pub unclean_heading : Summary → List ℕ
unclean_heading summary = verdict_front (codes "warn") (codes "!") ++ start_words summary ++ codes "</h2>\n<p>"

-- the heading of a recording that is not called clean, and each reason
abbrev pub unclean_verdict : List RuleValue → Summary → List ℕ
unclean_verdict rules summary = unclean_heading summary ++ unclean_reasons rules summary

-- the heading of the verdict of a log that is read to its end, and its sentences
abbrev pub heading_text : List RuleValue → Summary → List ℕ
heading_text rules summary = if is_called_clean summary then clean_verdict else unclean_verdict rules summary

-- whether each answer is positive that rules leave, where they leave so many requests, negative answers, and requests
-- without an answer
abbrev pub answers_text : List RuleValue → ℕ → ℕ → ℕ → List ℕ
answers_text rules asked refused missing =
    if asked == 0 then []
    else if refused == 0 && missing == 0
    then words_under rules (codes " No answer is negative, and none is missing.") (codes " Of what the rules leave, no answer is negative, and none is missing.")
    else words_under rules (codes " Not every request has a positive answer.") (codes " Of what the rules leave, not every request has a positive answer.")

-- whether each answer is positive that rules leave, by the counts of the rows
abbrev pub answers_of : List RuleValue → SortCounts → List ℕ
answers_of rules counts = answers_text rules counts.requests counts.negatives counts.unanswered

-- that not every answer is to what was asked, where so many are not
abbrev pub other_sentence : List RuleValue → ℕ → List ℕ
other_sentence rules count =
    if count == 0 then []
    else words_under rules (codes " Not every answer is to what was asked.") (codes " Of what the rules leave, not every answer is to what was asked.")

-- What was found of a log: the rules that it is under, of how many messages each spoke, the tally of its rows, its
-- counts, the times of its first frame and of its last one, its slowest answers, and those that are other than was asked.
pub record FindingsValue : Type 0 where
  pub rules : List RuleValue
  pub spoken : List ℕ
  pub tally : Tally
  pub summary : Summary
  pub first : ℕ
  pub last : ℕ
  pub slowest : List SlowAnswer
  pub others : OtherAnswers

-- what was found of a log, behind the heading of its verdict
abbrev pub findings_text : FindingsValue → List ℕ
findings_text found =
    attention_text found.tally found.others ++ counts_with found.others.count found.tally.counts found.summary ++ span_of found.summary.frames found.first found.last
    ++ slowest_text found.slowest ++ codes "</section>\n"

-- the verdict of a log of which this was found
abbrev pub verdict_text : FindingsValue → List ℕ
verdict_text found =
    heading_text found.rules found.summary ++ answers_of found.rules found.tally.counts ++ other_sentence found.rules found.others.count ++ codes "</p>\n"
    ++ findings_text found

-- A log that is refused.

-- why a log is refused whose bytes no log can have in this place
abbrev pub place_words : ℕ → ℕ → List ℕ
place_words line column = codes "line " ++ decimal line ++ codes " column " ++ decimal column ++ codes ": not a log line"

-- why a log is refused, as the program tells it; no other reason is told on a page
abbrev pub refusal_words : Fault → List ℕ
refusal_words (fault.BadLine line column) = place_words line column
refusal_words fault.LogLimit = codes "log longer than the limit"
refusal_words (fault.Oversize line announced) = []
refusal_words fault.OutputLimit = []
refusal_words fault.Read = []
refusal_words fault.Write = []
refusal_words fault.Memory = []

-- the line behind the rows of a log that is refused: why they stop there
abbrev pub stop_line : Fault → List ℕ
stop_line why = codes "<p class=\"stop\"><b>Refused here:</b> " ++ refusal_words why ++ codes ".</p>\n"

-- the heading of the verdict of a log that is refused, its sentences, and the cause, where there is one
abbrev pub refused_heading : Fault → Option RefusalCause → List ℕ
refused_heading why cause =
    verdict_front (codes "bad") (codes "&#10005;") ++ codes "The log is refused</h2>\n<p><em>"
    ++ refusal_words why
    ++ codes ".</em> Below is what the lines before that say; what comes after it is not read, and the counts are of the lines before.</p>\n"
    ++ cause_line cause

-- the verdict of a log that is refused, by what was found of the lines before
abbrev pub refused_verdict : Fault → Option RefusalCause → FindingsValue → List ℕ
refused_verdict why cause found = refused_heading why cause ++ findings_text found
