-- What was found of both logs: a row for each, with each reason why it isn't clean, how many items it has, and when it
-- was.
use Rattle.std.specs.Prelude.{ℕ, ◌==◌, List, ◌++◌, codes, length, if◌then◌else◌}
use Rattle.std.specs.Fmt.{decimal}
use Rattle.trace_log.specs.Summing.{is_clean}
use Rattle.trace_log.specs.declared.summary.Summary.{Summary}
use Rattle.trace_report.specs.Session.{SessionValue}
use Rattle.trace_report.specs.Verdict.{is_called_clean, unclean_reasons}
use Rattle.trace_report.specs.Durations.{seconds_between}
use Rattle.pair_words.specs.declared.log.PairLog.{PairLog}
use Rattle.pair_words.specs.declared.log.PairLog.TheVariants.{A, B}
use Rattle.pair_words.specs.Dates.{when_text}
use Rattle.pair_words.specs.Logs.{lettered_name}
use Rattle.trace_pair.specs.Sessions.{values_in}
use Rattle.uds_rules.specs.Rule.{RuleValue}

-- what is said in front of the reasons why a recording is not called clean: that it isn't, that its sides look
-- exchanged, or both
abbrev pub state_start : Summary → List ℕ
state_start summary =
    if summary.looks_exchanged
    then (if is_clean summary then codes "<b class=\"bd\">tester and unit look exchanged:</b> " else codes "<b class=\"bd\">not clean, and tester and unit look exchanged:</b> ")
    else codes "<b class=\"bd\">not clean:</b> "

-- whether a recording is called clean, and each reason why it isn't, by the rules that its messages are under
abbrev pub state : List RuleValue → Summary → List ℕ
state rules summary = if is_called_clean summary then codes "clean" else state_start summary ++ unclean_reasons rules summary

-- when the frames of a log were, where it has some: from when on, and how long
abbrev pub times_text : ℕ → ℕ → ℕ → List ℕ
times_text frames first last =
    if frames == 0 then codes "<td>&#8211;<td>&#8211;"
    else codes "<td>" ++ when_text first ++ codes "<td>" ++ seconds_between first last ++ codes "&#160;s"

-- the row of a log
abbrev pub recording : PairLog → List ℕ → SessionValue → List ℕ
recording log name session =
    codes "<tr><th scope=\"row\">" ++ lettered_name log name ++ codes "<td>" ++ state session.rules session.summary ++ codes "<td>" ++ decimal (length (values_in session))
    ++ times_text session.summary.frames session.first session.last ++ codes "\n"

-- the table of both recordings
abbrev pub recordings : List ℕ → List ℕ → SessionValue → SessionValue → List ℕ
recordings left_name right_name left right =
    codes "<table class=\"recs\">\n<thead><tr><th scope=\"col\">Recording<th scope=\"col\">State<th scope=\"col\">Items<th scope=\"col\">First frame<th scope=\"col\">Length</thead>\n<tbody>\n"
    ++ recording A left_name left ++ recording B right_name right ++ codes "</table>\n"
