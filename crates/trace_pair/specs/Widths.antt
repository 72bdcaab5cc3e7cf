-- How wide the columns of numbers are: by how many digits they have room for, which the style sets.
use Rattle.std.specs.Prelude.{ℕ, ◌-◌, ◌/◌, List, ◌++◌, codes, length, max, min, nat_lt, if◌then◌else◌}
use Rattle.std.specs.Fmt.{decimal}
use Rattle.trace_report.specs.Items.{items_in}
use Rattle.trace_report.specs.Session.{SessionValue}

-- how many digits a number has, of which no fewer than two are told, and no more than eight
abbrev pub digits : ℕ → ℕ
digits number =
    if nat_lt number 100 then 2 else if nat_lt number 1000 then 3 else if nat_lt number 10000 then 4 else if nat_lt number 100000 then 5
    else if nat_lt number 1000000 then 6 else if nat_lt number 10000000 then 7 else 8

-- the same, where a column has room for so many digits at most
abbrev pub room : ℕ → ℕ → List ℕ
room most number = decimal (min most (digits number))

-- the classes of a chart: by the largest number of its items, of its lines, and of its seconds
abbrev pub chart_classes : ℕ → ℕ → ℕ → List ℕ
chart_classes items lines seconds = codes "ch w" ++ room 7 items ++ codes " l" ++ room 8 lines ++ codes " s" ++ room 7 seconds

-- those of the chart of a session
abbrev pub session_classes : SessionValue → List ℕ
session_classes session = chart_classes (length (items_in session.rows)) session.summary.lines ((session.last - session.first) / 1000000)

-- the class of the table of items: by the largest number of both sessions
abbrev pub items_class : SessionValue → SessionValue → List ℕ
items_class one other = codes "w" ++ room 7 (max (length (items_in one.rows)) (length (items_in other.rows)))
