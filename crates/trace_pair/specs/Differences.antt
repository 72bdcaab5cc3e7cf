-- The list of the differences, where there are several: the first fifty, of which the first ten stand in the open.
use Rattle.std.specs.Prelude.{ℕ, ◌+◌, ◌-◌, ◌==◌, true, List, [], ◌∷◌, ◌++◌, codes, length, min, nat_le, nat_lt, take, if◌then◌else◌}
use Rattle.std.specs.Fmt.{decimal}
use Rattle.shown_rows.specs.declared.changes.Change.{Change}
use Rattle.trace_report.specs.Session.{SessionValue}
use Rattle.pair_words.specs.declared.log.PairLog.TheVariants.{A, B}
use Rattle.pair_words.specs.DifferenceNames.{difference_name}
use Rattle.trace_pair.specs.ChangeWords.{change_line}
use Rattle.trace_pair.specs.Sessions.{values_in}
use Rattle.trace_pair.specs.Verdict.{is_lossy}

-- so many differences of the list stand in the open
abbrev pub open_differences : ℕ
open_differences = 10

-- so many differences stand in the list at most
abbrev pub listed_differences : ℕ
listed_differences = 50

-- the number of the first difference that is not listed, if there is one
abbrev pub first_unlisted : ℕ
first_unlisted = listed_differences + 1

-- the change of a number in a line, with a link to it
abbrev pub difference_line : SessionValue → SessionValue → ℕ → Change → List ℕ
difference_line left right number here =
    codes "<li>" ++ change_line left.rules true number (is_lossy A left here) (is_lossy B right here) (values_in left) (values_in right) here ++ codes "\n"

-- the start of the fold of so many differences more than stand in the open
abbrev pub more_start : ℕ → List ℕ
more_start count =
    codes "</ol>\n<details class=\"more\">\n<summary>" ++ (if count == 1 then codes "1 more difference" else decimal count ++ codes " more differences")
    ++ codes "</summary>\n<ol class=\"dl\" start=\"" ++ decimal (open_differences + 1) ++ codes "\">\n"

-- the lines of changes from a number on, of so many that are listed
abbrev pub difference_lines : SessionValue → SessionValue → ℕ → ℕ → List Change → List ℕ
difference_lines left right listed number [] = []
difference_lines left right listed number (here ∷ later) =
    (if number == open_differences + 1 then more_start (listed - open_differences) else []) ++ difference_line left right number here ++ difference_lines left right listed (number + 1) later

-- how many there are, and how many of them are listed
abbrev pub list_heading : ℕ → List ℕ
list_heading count =
    if nat_le count listed_differences then codes "<h2>All " ++ decimal count ++ codes " differences</h2>\n"
    else codes "<h2>The first " ++ decimal listed_differences ++ codes " of " ++ decimal count ++ codes " differences</h2>\n"

-- the end of the list, and where the others stand
abbrev pub list_end : ℕ → List ℕ
list_end count =
    (if nat_lt open_differences count then codes "</ol>\n</details>\n" else codes "</ol>\n")
    ++ (if nat_le count listed_differences then []
    else codes "<p>" ++ (if count == listed_differences + 1 then codes "1 more difference stands" else decimal (count - listed_differences) ++ codes " more differences stand") ++ codes " below: <a href=\"#" ++ difference_name first_unlisted ++ codes "\">go on there</a>.</p>\n")

-- the list, where there are several differences
abbrev pub list_text : SessionValue → SessionValue → List Change → List ℕ
list_text left right all =
    if nat_le (length all) 1 then []
    else codes "<section id=\"differences\">\n" ++ list_heading (length all) ++ codes "<ol class=\"dl\">\n"
    ++ difference_lines left right (min listed_differences (length all)) 1 (take listed_differences all) ++ list_end (length all) ++ codes "</section>\n"
