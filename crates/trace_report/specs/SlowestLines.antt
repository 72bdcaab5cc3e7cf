-- The slowest answers of a log, with which its verdict ends: for each a link to its item, the service, how long the request
-- waited, and how many replies said before that it is pending.
use Rattle.std.specs.Prelude.{ℕ, ◌==◌, List, [], ◌∷◌, ◌++◌, codes, if◌then◌else◌}
use Rattle.std.specs.Fmt.{decimal}
use Rattle.std.specs.List.{flat_map}
use Rattle.slow_answers.specs.declared.answer.SlowAnswer.{SlowAnswer}
use Rattle.trace_text.specs.Words.{service_text}
use Rattle.trace_report.specs.Durations.{milliseconds_text}
use Rattle.trace_report.specs.Links.{link_text}
use Rattle.trace_report.specs.declared.targets.LinkTarget.TheVariants as target

-- how many replies said that the request is pending, where some did
abbrev pub pending_words : ℕ → List ℕ
pending_words count = if count == 0 then [] else codes ", " ++ decimal count ++ codes " pending"

-- the line of an answer
abbrev pub slow_line : SlowAnswer → List ℕ
slow_line answer =
    codes "<li>" ++ link_text (target.Item answer.item) ++ codes " " ++ service_text answer.service ++ codes " <b>" ++ milliseconds_text answer.micros
    ++ codes "</b>" ++ pending_words answer.pending ++ codes "\n"

-- the lines of these answers
abbrev pub slow_lines : List SlowAnswer → List ℕ
slow_lines answers = flat_map slow_line answers

-- the list of these answers; nothing, where there is none
abbrev pub slowest_text : List SlowAnswer → List ℕ
slowest_text [] = []
slowest_text (first ∷ rest) =
    codes "<p>Slowest answers, from the last frame of the request to the first one of the answer:</p>\n<ol class=\"look\">\n"
    ++ slow_line first ++ slow_lines rest ++ codes "</ol>\n"
