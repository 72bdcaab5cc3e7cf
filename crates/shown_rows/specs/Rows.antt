-- Rows of two sessions: which are a change, and how many items they have of both.
use Prim.Native.Nat.{zero, suc}
use Rattle.std.specs.Prelude.{ℕ, ◌+◌, Bool, true, false, ◌||◌, List, [], ◌∷◌, length, if◌then◌else◌}
use Rattle.uds_difference.specs.declared.row.Row.{Row}
use Rattle.uds_difference.specs.declared.row.Row.TheVariants.{Same, Changed, OnlyLeft, OnlyRight}

-- what stands in the row is not the same in both sessions
abbrev pub is_change : Row → Bool
is_change Same = false
is_change Changed = true
is_change OnlyLeft = true
is_change OnlyRight = true

-- how many items a row has of the left session
abbrev pub left_in : Row → ℕ
left_in Same = 1
left_in Changed = 1
left_in OnlyLeft = 1
left_in OnlyRight = 0

-- and how many of the right one
abbrev pub right_in : Row → ℕ
right_in Same = 1
right_in Changed = 1
right_in OnlyLeft = 0
right_in OnlyRight = 1

-- how many items rows have of the left session
abbrev pub left_count : List Row → ℕ
left_count [] = 0
left_count (row ∷ rows) = left_in row + left_count rows

-- and how many of the right one
abbrev pub right_count : List Row → ℕ
right_count [] = 0
right_count (row ∷ rows) = right_in row + right_count rows

-- one of the first so many rows is a change
abbrev pub changes_within : ℕ → List Row → Bool
changes_within zero rows = false
changes_within (suc count) [] = false
changes_within (suc count) (row ∷ rows) = is_change row || changes_within count rows

-- something differs
abbrev pub differs : List Row → Bool
differs rows = changes_within (length rows) rows

-- how many rows that are the same are shown in front of a change, and behind one
abbrev pub context : ℕ
context = 3

-- both are of one kind
abbrev pub same_row : Row → Row → Bool
same_row Same Same = true
same_row Changed Changed = true
same_row OnlyLeft OnlyLeft = true
same_row OnlyRight OnlyRight = true
same_row _ _ = false

-- how many rows are of this kind
abbrev pub count_of : Row → List Row → ℕ
count_of kind [] = 0
count_of kind (row ∷ rows) = (if same_row kind row then 1 else 0) + count_of kind rows
