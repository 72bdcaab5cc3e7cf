-- What stands around the rows of a chart: its head, its bodies, and its end.
use Rattle.std.specs.Prelude.{ℕ, ◌==◌, Bool, List, [], ◌++◌, codes, nat_le, if◌then◌else◌}
use Rattle.std.specs.Fmt.{decimal}

-- the start of a body, where one begins: of items that are the same in both logs, or of others
abbrev pub body_start : Bool → Bool → List ℕ
body_start begins other = if begins then (if other then codes "<tbody class=\"df\">\n" else codes "<tbody>\n") else []

-- a row of words alone, in a body of its own
abbrev pub words_row : List ℕ → List ℕ → List ℕ
words_row look words = codes "<tbody>\n<tr class=\"" ++ look ++ codes "\"><td><td><td><td><div class=\"t\"><div>" ++ words ++ codes "</div></div>\n"

-- how many rows more there are, or that the log ends
abbrev pub chart_end : ℕ → Bool → List ℕ
chart_end more ends =
    if nat_le 1 more
    then words_row (codes "p") (codes "<i>" ++ decimal more ++ (if more == 1 then codes " row more, not shown here</i>" else codes " rows more, not shown here</i>"))
    else if ends then words_row (codes "p end") (codes "<b>end</b> <i>of the log</i>")
    else []

-- how many items more the difference has, if it has some
abbrev pub items_end : ℕ → List ℕ
items_end count =
    if count == 0 then []
    else words_row (codes "p") (codes "<i>" ++ decimal count ++ (if count == 1 then codes " item more of this difference, not shown here</i>" else codes " items more of this difference, not shown here</i>"))

-- the head of a chart, by its classes: the names of its columns
abbrev pub chart_head : List ℕ → List ℕ
chart_head classes =
    codes "<table class=\"" ++ classes
    ++ codes "\">\n<thead><tr><th scope=\"col\">Item<th scope=\"col\">Lines<th scope=\"col\">Time<th scope=\"col\"><span class=\"T\">Tester</span> <span class=\"U\">Unit</span></thead>\n"
