-- The verdict of a page of two logs: whether the sessions differ, in how many places and how, and how far that can be
-- known.
use Rattle.std.specs.Prelude.{ℕ, ◌+◌, ◌==◌, Bool, true, false, not, ◌&&◌, ◌||◌, List, [], ◌∷◌, ◌++◌, codes, length, nat_lt, nat_le, if◌then◌else◌}
use Rattle.std.specs.Fmt.{decimal}
use Rattle.std.specs.List.{list_any}
use Rattle.trace_log.specs.Summing.{is_clean}
use Rattle.uds_exchange.specs.Meaning.{ItemValue, exchange, stray}
use Rattle.uds_difference.specs.declared.row.Row.{Row}
use Rattle.uds_difference.specs.declared.row.Row.TheVariants.{Same, Changed, OnlyLeft, OnlyRight}
use Rattle.shown_rows.specs.Changes.{changes}
use Rattle.shown_rows.specs.Rows.{count_of, differs}
use Rattle.shown_rows.specs.declared.changes.Change.{Change}
use Rattle.trace_report.specs.RuleWords.{rules_word}
use Rattle.trace_report.specs.Session.{SessionValue}
use Rattle.trace_report.specs.Verdict.{verdict_front}
use Rattle.pair_words.specs.declared.log.PairLog.{PairLog}
use Rattle.pair_words.specs.declared.log.PairLog.TheVariants.{A, B}
use Rattle.pair_words.specs.Logs.{has_item, items_before}
use Rattle.trace_pair.specs.Losses.{losses_from, losses_in_front}
use Rattle.trace_pair.specs.Sessions.{values_in}

-- so many items
abbrev pub items_word : ℕ → List ℕ
items_word count = if count == 1 then codes "1 item" else decimal count ++ codes " items"

-- how many items only one session has, and how many changed: what is there, one after another; the first says what is
-- counted
abbrev pub counts_words : ℕ → ℕ → ℕ → List ℕ
counts_words left right changed =
    (if left == 0 then [] else items_word left ++ codes " only in A")
    ++ (if right == 0 then [] else (if left == 0 then items_word right else codes ", " ++ decimal right) ++ codes " only in B")
    ++ (if changed == 0 then [] else (if left + right == 0 then items_word changed else codes ", " ++ decimal changed) ++ codes " changed")

-- so many differences
abbrev pub differences_word : ℕ → List ℕ
differences_word count = if count == 1 then codes "1 difference: " else decimal count ++ codes " differences: "

-- how many items are the same
abbrev pub same_words : ℕ → List ℕ
same_words count = if count == 0 then codes "No item is the same." else if count == 1 then codes "<b>1</b> item is the same." else codes "<b>" ++ decimal count ++ codes "</b> items are the same."

-- the heading of sessions that differ, by how many changes and rows of each kind there are
abbrev pub different_heading : ℕ → ℕ → ℕ → ℕ → ℕ → List ℕ
different_heading differences same left right changed =
    verdict_front (codes "warn") (codes "&#8800;") ++ differences_word differences ++ counts_words left right changed
    ++ codes "</h2>\n<p>" ++ same_words same ++ codes " <a href=\"#difference\">" ++ (if differences == 1 then codes "See the difference." else codes "See the first difference.") ++ codes "</a></p>\n"

-- Loss.

-- Something is missing of the items of a log that belong to a change; of a log that has none of them, in front of the
-- item before which they would stand.
abbrev pub lossy_by : Bool → SessionValue → ℕ → ℕ → Bool
lossy_by has session before count =
    if has then nat_lt 0 (losses_from session.rows before count) else nat_lt 0 (losses_in_front session.rows before)

-- a log is not clean at a change
abbrev pub is_lossy : PairLog → SessionValue → Change → Bool
is_lossy log session here = lossy_by (has_item log here.kind) session (items_before log here) here.count

-- at how many of these changes a log is not clean
abbrev pub lossy_count : SessionValue → SessionValue → List Change → ℕ
lossy_count left right [] = 0
lossy_count left right (here ∷ later) = (if is_lossy A left here || is_lossy B right here then 1 else 0) + lossy_count left right later

-- at which changes a log is not clean: so many of so many
abbrev pub at_words : ℕ → ℕ → List ℕ
at_words lossy all =
    if lossy == all then (if all == 1 then codes "At this difference" else codes "At each of these differences")
    else codes "At " ++ decimal lossy ++ codes " of these " ++ decimal all ++ codes " differences"

-- which log is not clean at one of some changes, where one is not
abbrev pub who_words : Bool → Bool → List ℕ
who_words true true = codes "A or B is not clean"
who_words true false = codes "A is not clean"
who_words false right = codes "B is not clean"

-- what it means that a log is not clean at so many of so many changes, where one isn't
abbrev pub lossy_line : ℕ → ℕ → Bool → Bool → List ℕ
lossy_line lossy all left right =
    if lossy == 0 then []
    else codes "<p class=\"lossline\"><b>" ++ at_words lossy all ++ codes "</b> " ++ who_words left right
    ++ codes ": frames are missing, late, out of order or of no legal form there. The recording may differ, and not the session.</p>\n"

-- what it means that a log is not clean at some of these changes, where one isn't
abbrev pub lossy_line_of : SessionValue → SessionValue → List Change → List ℕ
lossy_line_of left right all =
    lossy_line (lossy_count left right all) (length all) (list_any (is_lossy A left) all) (list_any (is_lossy B right) all)

-- How far it can be known.

-- that a shorter difference may be there, where the bound was passed up to which a shortest one is looked for
abbrev pub bound_line : Bool → ℕ → List ℕ
bound_line true bound = []
bound_line false bound = codes "<p>Perhaps not the shortest: more than " ++ decimal bound ++ codes " items would be removed or added.</p>\n"

-- a page with more rows is a large one
abbrev pub large_page : ℕ
large_page = 100000

-- how many rows a large page has, and what gives a part of it
abbrev pub size_line : ℕ → List ℕ
size_line rows =
    if nat_le rows large_page then []
    else codes "<p>This page has " ++ decimal rows ++ codes " rows. <code>udsnorm diff</code> has the differences alone, and <code>udsnorm list</code> any part of a session.</p>\n"

-- the verdict of two sessions that differ, with these rows
abbrev pub different_verdict : Bool → ℕ → List Row → SessionValue → SessionValue → List ℕ
different_verdict shortest bound rows left right =
    different_heading (length (changes rows)) (count_of Same rows) (count_of OnlyLeft rows) (count_of OnlyRight rows) (count_of Changed rows)
    ++ lossy_line_of left right (changes rows) ++ bound_line shortest bound ++ size_line (length rows)

-- The same.

-- an item is an exchange, and no stray
abbrev pub is_exchange : ItemValue → Bool
is_exchange (exchange request answer) = true
is_exchange (stray side bytes) = false

-- the verdict where none of the two sessions has an item
abbrev pub nothing_verdict : List ℕ
nothing_verdict =
    verdict_front (codes "warn") (codes "!") ++ codes "Neither session has an item</h2>\n"
    ++ codes "<p>So they can't differ. Below stands what each recording has.</p>\n"

-- how far two sessions are known to be the same, where a log is not clean, by whether each is
abbrev pub recorded_words : Bool → Bool → List ℕ
recorded_words true true = []
recorded_words true false = codes " as far as they are recorded: B is not clean"
recorded_words false true = codes " as far as they are recorded: A is not clean"
recorded_words false false = codes " as far as they are recorded: neither is clean"

-- why two sessions say little that are the same: tester and unit look exchanged, or nothing was asked
abbrev pub doubt_words : Bool → Bool → List ℕ
doubt_words exchanged asked = if exchanged then codes ", but tester and unit look exchanged" else if asked then [] else codes ", and neither has a request"

-- two sessions are the same without a doubt: both logs are clean, something was asked, and the sides look right
abbrev pub is_beyond_doubt : Bool → Bool → Bool → Bool → Bool
is_beyond_doubt exchanged asked left_clean right_clean = not exchanged && (asked && (left_clean && right_clean))

-- that sessions are under so many rules, where they are under one
abbrev pub under_words : ℕ → List ℕ
under_words rules = if rules == 0 then [] else codes " under " ++ rules_word rules

-- the head of sessions that are the same without a doubt: in green where they are under no rule, and else in a colour
-- and with a sign of its own
abbrev pub same_head : ℕ → List ℕ
same_head rules = if rules == 0 then verdict_front (codes "good") (codes "=") else verdict_front (codes "ruled") (codes "&#8776;")

-- the start of the heading of sessions that are the same, under so many rules: as that only where they are so without a
-- doubt
abbrev pub same_start : ℕ → Bool → List ℕ
same_start rules beyond_doubt =
    (if beyond_doubt then same_head rules else verdict_front (codes "warn") (codes "!")) ++ codes "The two sessions are the same"
    ++ under_words rules

-- the heading of sessions that are the same, under so many rules
abbrev pub same_heading : ℕ → Bool → Bool → Bool → Bool → List ℕ
same_heading rules exchanged asked left_clean right_clean =
    same_start rules (is_beyond_doubt exchanged asked left_clean right_clean) ++ recorded_words left_clean right_clean
    ++ doubt_words exchanged asked ++ codes "</h2>\n"

-- so many items in front of what is said of each: all, or those that so many rules leave
abbrev pub each_item : ℕ → ℕ → List ℕ
each_item rules count =
    if count == 1 then if rules == 0 then codes "One item" else codes "Of what the rules leave, one item"
    else (if rules == 0 then codes "Each of the " else codes "Of what the rules leave, each of the ") ++ decimal count ++ codes " items"

-- that so many items are the same, under so many rules
abbrev pub same_items : ℕ → ℕ → List ℕ
same_items rules count = codes "<p>" ++ each_item rules count ++ codes " is equal in both, byte for byte.</p>\n"

-- the verdict of two sessions that are the same, under so many rules: its heading, how many items they have, and the
-- size of the page
abbrev pub same_verdict : ℕ → Bool → Bool → Bool → Bool → ℕ → List ℕ
same_verdict rules exchanged asked left_clean right_clean count =
    same_heading rules exchanged asked left_clean right_clean ++ same_items rules count ++ size_line count

-- the verdict of two sessions that are the same, and have so many items
abbrev pub same_of : ℕ → SessionValue → SessionValue → List ℕ
same_of count left right =
    same_verdict (length left.rules) (left.summary.looks_exchanged || right.summary.looks_exchanged) (list_any is_exchange (values_in left))
    (is_clean left.summary) (is_clean right.summary) count

-- the verdict of two sessions with these rows
abbrev pub verdict : Bool → ℕ → List Row → SessionValue → SessionValue → List ℕ
verdict shortest bound rows left right =
    if differs rows then different_verdict shortest bound rows left right
    else if length rows == 0 then nothing_verdict
    else same_of (length rows) left right
