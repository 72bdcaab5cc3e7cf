-- What holds of any rows.
use Rattle.std.specs.Prelude.{◌≡◌, ◌+◌, ◌-◌, ◌<◌, ◌≤◌, ⊤, ℕ, true, false, List, [], ◌∷◌, ◌++◌, length, take, drop, get_or, replicate, if◌then◌else◌}
use Rattle.std.specs.List.{filter, flat_map}
use Rattle.uds_exchange.specs.Meaning.{ItemValue}
use Rattle.uds_difference.specs.Rows.{rows_of}
use Rattle.uds_difference.specs.declared.row.Row.{Row}
use Rattle.uds_difference.specs.declared.row.Row.TheVariants.{Same, Changed, OnlyLeft, OnlyRight}
use Rattle.shown_rows.specs.declared.changes.Change.{Change}
use Rattle.shown_rows.specs.Changes.{changes}
use Rattle.shown_rows.specs.Folds.{context_behind, folded, is_shown}
use Rattle.shown_rows.specs.Hunks.{Hunk, hunks}
use Rattle.shown_rows.specs.Rows.{count_of, is_change, left_count, left_in, right_count, right_in, same_row}

-- a row, and how many items of both sessions stand before it
pub record RowAt : Type 0 where
  pub kind : Row
  pub left : ℕ
  pub right : ℕ

-- a row before which so many items of both stand
abbrev pub row_at : Row → ℕ → ℕ → RowAt
row_at kind left right = record { kind = kind; left = left; right = right }

-- these rows, each at its place, where so many items of both stand before the first
abbrev pub rows_at : ℕ → ℕ → List Row → List RowAt
rows_at left right [] = []
rows_at left right (row ∷ rows) = row_at row left right ∷ rows_at (left + left_in row) (right + right_in row) rows

-- the rows of a hunk, each at its place
abbrev pub places_of_hunk : Hunk → List RowAt
places_of_hunk hunk = rows_at hunk.left hunk.right hunk.rows

-- the rows that are shown, each at its place, where so many of the next are shown for a change before them
abbrev pub shown_at : ℕ → ℕ → ℕ → List Row → List RowAt
shown_at still_shown left right [] = []
shown_at still_shown left right (row ∷ rows) =
    if is_shown still_shown (row ∷ rows)
    then row_at row left right ∷ shown_at (context_behind still_shown row) (left + left_in row) (right + right_in row) rows
    else shown_at (context_behind still_shown row) (left + left_in row) (right + right_in row) rows

-- What a page shows unfolded is what the hunks of a text have, each row where it stands there. So, by the kinds of both sides,
-- the rows that are shown are those of the hunks, in order.
abbrev pub ShownRowsStandInHunks : Type 0
ShownRowsStandInHunks = (rows : List Row) → shown_at 0 0 0 rows ≡ flat_map places_of_hunk (hunks rows)

-- the row at a place is a change
abbrev pub ChangesAt : List Row → ℕ → Type 0
ChangesAt rows place = is_change (get_or rows place Same) ≡ true

-- it is one, or one is among the three rows before it and the three behind it
abbrev pub StandsNearChange : List Row → ℕ → Type 0
StandsNearChange rows place = (other : ℕ) × ChangesAt rows other × (other ≤ place + 3) × (place ≤ other + 3)

-- how many of the next rows are shown for a change before them, behind these, by how many were in front of them
abbrev pub still_shown_behind : ℕ → List Row → ℕ
still_shown_behind still_shown [] = still_shown
still_shown_behind still_shown (row ∷ rows) = still_shown_behind (context_behind still_shown row) rows

-- a row is shown, behind those in front of it, exactly where it stands near a change
abbrev pub ShownRowsStandNearChanges : Type 0
ShownRowsStandNearChanges = (front : List Row) (row : Row) (later : List Row)
    → (is_shown (still_shown_behind 0 front) (row ∷ later) ≡ true → StandsNearChange (front ++ (row ∷ later)) (length front))
    × (StandsNearChange (front ++ (row ∷ later)) (length front) → is_shown (still_shown_behind 0 front) (row ∷ later) ≡ true)

-- each row from one place up to another stands near a change
abbrev pub AllNear : List Row → ℕ → ℕ → Type 0
AllNear rows from end = (place : ℕ) → from ≤ place → place < end → StandsNearChange rows place

-- and none of them does
abbrev pub NoneNear : List Row → ℕ → ℕ → Type 0
NoneNear rows from end = (place : ℕ) → from ≤ place → place < end → StandsNearChange rows place → ⊥

-- Of rows of which none is still shown for a change in front of them, as many are folded together as there are up to the
-- next that stands near a change.
abbrev pub FoldedRowsStandFar : Type 0
FoldedRowsStandFar = (front later : List Row) → still_shown_behind 0 front ≡ 0
    → NoneNear (front ++ later) (length front) (length front + folded later)
    × (folded later < length later → StandsNearChange (front ++ later) (length front + folded later))

-- A hunk is the piece of the rows from one place up to another, with as many items of both sessions before it as stand
-- there. Each of its rows stands near a change, and the one behind it does not.
pub record IsPiece (rows : List Row) (here : Hunk) (from end : ℕ) : Type 0 where
  pub rows_are : here.rows ≡ take (end - from) (drop from rows)
  pub some : from < end
  pub inside : end ≤ length rows
  pub left : here.left ≡ left_count (take from rows)
  pub right : here.right ≡ right_count (take from rows)
  pub near : AllNear rows from end
  pub whole : end < length rows → StandsNearChange rows end → ⊥

-- from a place on the rows have these hunks, one behind another, and no row beside them stands near a change
abbrev pub HasHunks : List Row → ℕ → List Hunk → Type 0
HasHunks rows place [] = NoneNear rows place (length rows)
HasHunks rows place (here ∷ hunks) =
    (from : ℕ) × (end : ℕ) × (place ≤ from) × NoneNear rows place from × IsPiece rows here from end × HasHunks rows end hunks

-- the hunks are the pieces of the rows of which each row stands near a change
abbrev pub HunksStandAtTheirPlaces : Type 0
HunksStandAtTheirPlaces = (rows : List Row) → HasHunks rows 0 (hunks rows)

-- the rows of a change
abbrev pub rows_of_change : Change → List Row
rows_of_change here = replicate here.count here.kind

-- the changes have each row that is one, once, in order
abbrev pub ChangesHaveEachRow : Type 0
ChangesHaveEachRow = (rows : List Row) → flat_map rows_of_change (changes rows) ≡ filter is_change rows

-- these rows begin with none of this kind
abbrev pub BeginOtherwise : Row → List Row → Type 0
BeginOtherwise kind [] = ⊤
BeginOtherwise kind (row ∷ rows) = same_row kind row ≡ false

-- so many rows of a kind, in front of these, are all that a reader counts as one change: one item that changed, or each
-- row of a run of items of one session alone
abbrev pub IsWhole : Row → ℕ → List Row → Type 0
IsWhole Same count later = ⊥
IsWhole Changed count later = count ≡ 1
IsWhole OnlyLeft count later = (0 < count) × BeginOtherwise OnlyLeft later
IsWhole OnlyRight count later = (0 < count) × BeginOtherwise OnlyRight later

-- Where a change stands behind other rows: in front of it are so many that are the same, then it has its own.
pub record StandsBehind (front rows : List Row) (here : Change) (same later : List Row) : Type 0 where
  pub place : rows ≡ same ++ (rows_of_change here ++ later)
  pub all_same : same ≡ replicate (length same) Same
  pub left : here.left ≡ left_count (front ++ same)
  pub right : here.right ≡ right_count (front ++ same)
  pub whole : IsWhole here.kind here.count later

-- Rows behind others have these changes, one behind another, and all rows beside them are the same. So a run of items of
-- one session alone begins where it does: the change in front of it would not be whole.
abbrev pub HasChanges : List Row → List Row → List Change → Type 0
HasChanges front rows [] = rows ≡ replicate (length rows) Same
HasChanges front rows (here ∷ changes) =
    (same : List Row) × (later : List Row) × StandsBehind front rows here same later
    × HasChanges (front ++ (same ++ rows_of_change here)) later changes

-- the changes stand at their places, each is whole, and no row that is one stands beside them
abbrev pub ChangesStandAtTheirPlaces : Type 0
ChangesStandAtTheirPlaces = (rows : List Row) → HasChanges [] rows (changes rows)

-- the counts of a difference add up to those of both sessions
abbrev pub CountsAddUp : Type 0
CountsAddUp = (xs ys : List ItemValue)
    → (count_of Same (rows_of xs ys) + count_of Changed (rows_of xs ys) + count_of OnlyLeft (rows_of xs ys) ≡ length xs)
    × (count_of Same (rows_of xs ys) + count_of Changed (rows_of xs ys) + count_of OnlyRight (rows_of xs ys) ≡ length ys)
