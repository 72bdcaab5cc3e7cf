-- What holds of the rows of two sessions, as the verdict of their page counts them, and as its charts find them.
use Rattle.std.specs.Prelude.{◌≡◌, ◌==◌, ◌<◌, ℕ, ◌+◌, Bool, true, List, [], ◌∷◌, ◌++◌, codes, length, Some, if◌then◌else◌}
use Rattle.std.specs.Fmt.{decimal}
use Rattle.std.specs.List.{filter, sum_by}
use Rattle.uds_exchange.specs.Meaning.{ItemValue}
use Rattle.uds_difference.specs.Rows.{rows_of}
use Rattle.uds_difference.specs.declared.row.Row.{Row}
use Rattle.uds_difference.specs.declared.row.Row.TheVariants.{Same, Changed, OnlyLeft, OnlyRight}
use Rattle.shown_rows.specs.Changes.{changes}
use Rattle.shown_rows.specs.Rows.{differs, left_count, right_count, same_row}
use Rattle.shown_rows.specs.declared.changes.Change.{Change}
use Rattle.trace_report.specs.Session.{SessionValue}
use Rattle.trace_report.specs.Verdict.{verdict_front}
use Rattle.trace_pair.specs.declared.item_row.RowPlace.{RowPlace}
use Rattle.pair_words.specs.declared.log.PairLog.{PairLog}
use Rattle.pair_words.specs.declared.log.PairLog.TheVariants.{A, B}
use Rattle.trace_pair.specs.Counterparts.{row_with}
use Rattle.trace_pair.specs.ItemRows.{place_in}
use Rattle.pair_words.specs.Logs.{has_item}
use Rattle.trace_pair.specs.Verdict.{same_words, verdict}

-- The counts of the verdict.

-- how many of these rows are of a kind
abbrev pub number_of : List Row → Row → ℕ
number_of rows kind = length (filter (same_row kind) rows)

-- so many rows of one kind, and the words behind their number
pub record ToldKind : Type 0 where
  pub count : ℕ
  pub words : List ℕ

abbrev pub told_kind : List Row → Row → List ℕ → ToldKind
told_kind rows kind words = record { count = number_of rows kind; words = words }

-- the kinds of rows that differ, in the order in which a heading tells them
abbrev pub differing_kinds : List Row → List ToldKind
differing_kinds rows =
    told_kind rows OnlyLeft (codes " only in A") ∷ told_kind rows OnlyRight (codes " only in B") ∷ told_kind rows Changed (codes " changed") ∷ []

-- so many of a thing
abbrev pub so_many : ℕ → List ℕ → List ℕ
so_many count thing = if count == 1 then codes "1 " ++ thing else decimal count ++ (codes " " ++ thing ++ codes "s")

-- kinds behind one that is told: of each that has a row its number
abbrev pub told_behind : List ToldKind → List ℕ
told_behind [] = []
told_behind (here ∷ later) = (if here.count == 0 then [] else codes ", " ++ decimal here.count ++ here.words) ++ told_behind later

-- kinds, one behind another: of the first that has a row it is told that items are counted
abbrev pub told : List ToldKind → List ℕ
told [] = []
told (here ∷ later) = if here.count == 0 then told later else so_many here.count (codes "item") ++ here.words ++ told_behind later

-- the heading of rows that differ: how many changes there are, and how many rows of each kind
abbrev pub heading : List Row → List ℕ
heading rows = so_many (length (changes rows)) (codes "difference") ++ codes ": " ++ told (differing_kinds rows)

-- how many rows a change has
abbrev pub rows_in_change : Change → ℕ
rows_in_change here = here.count

-- The heading of a page says how many items only A has, how many only B has and how many changed, as the rows have
-- them, and below it stands how many are the same. Its differences have together as many rows as it counts.
abbrev pub HeadingCountsTheRows : Type 0
HeadingCountsTheRows = (shortest : Bool) (bound : ℕ) (rows : List Row) (left right : SessionValue) → differs rows ≡ true
    → ((behind : List ℕ) × (verdict shortest bound rows left right
    ≡ verdict_front (codes "warn") (codes "&#8800;") ++ (heading rows ++ (codes "</h2>\n<p>" ++ (same_words (number_of rows Same) ++ behind)))))
    × (sum_by rows_in_change (changes rows) ≡ number_of rows OnlyLeft + number_of rows OnlyRight + number_of rows Changed)

-- The row of an item.

-- the items of the session of a log
abbrev pub items_of : PairLog → List ItemValue → List ItemValue → List ItemValue
items_of A left right = left
items_of B left right = right

-- One of some rows, behind so many in front of it, with as many items of both logs before it as these have. It has the
-- item of a place of a log.
pub record IsRowOfItem (log : PairLog) (item : ℕ) (rows front later : List Row) (here : RowPlace) : Type 0 where
  pub row : rows ≡ front ++ (here.kind ∷ later)
  pub before_left : here.left ≡ left_count front
  pub before_right : here.right ≡ right_count front
  pub has : has_item log here.kind ≡ true
  pub own : place_in log here ≡ item

-- By the number of an item of a log, counted from 1, the row is found that has it.
abbrev pub IsFound : PairLog → ℕ → List Row → Type 0
IsFound log item rows =
    (here : RowPlace) × (front : List Row) × (later : List Row) × (row_with log (item + 1) rows ≡ Some here) × IsRowOfItem log item rows front later here

-- each item of both sessions is found
abbrev pub EachItemHasItsRow : Type 0
EachItemHasItsRow = (left right : List ItemValue) (log : PairLog) (item : ℕ) → item < length (items_of log left right) → IsFound log item (rows_of left right)
