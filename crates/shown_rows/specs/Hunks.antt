-- The hunks of rows: what of them is shown.
use Prim.Native.Nat.{zero, suc}
use Rattle.std.specs.Prelude.{ℕ, ◌+◌, ◌-◌, ◌*◌, Bool, min, List, [], ◌∷◌, length, take, if◌then◌else◌}
use Rattle.uds_difference.specs.declared.row.Row.{Row}
use Rattle.shown_rows.specs.Rows.{changes_within, context, left_in, right_in}

-- A hunk begins with the first of these rows, behind one that stands in none: a change is among it and the three behind it.
abbrev pub begins_hunk : List Row → Bool
begins_hunk rows = changes_within (context + 1) rows

-- how many rows of a hunk, which begins with the first of these, stand up to its last change: there at most six rows
-- between two changes are the same
abbrev pub rows_to_last_change : List Row → ℕ
rows_to_last_change [] = 0
rows_to_last_change (row ∷ rows) = if changes_within (2 * context + 1) rows then suc (rows_to_last_change rows) else 1

-- how many rows it has: behind its last change three, or as many as there are
abbrev pub hunk_length : List Row → ℕ
hunk_length rows = rows_to_last_change rows + min context (length rows - rows_to_last_change rows)

-- a hunk: how many items of both sessions stand before it, and its rows
pub record Hunk : Type 0 where
  pub left : ℕ
  pub right : ℕ
  pub rows : List Row

-- The hunks of rows, of which the first so many belong to a hunk in front of them, by how many items of both sessions
-- stand before the first.
abbrev pub hunks_behind : ℕ → ℕ → ℕ → List Row → List Hunk
hunks_behind shown left right [] = []
hunks_behind (suc shown) left right (row ∷ rows) = hunks_behind shown (left + left_in row) (right + right_in row) rows
hunks_behind zero left right (row ∷ rows) =
    if begins_hunk (row ∷ rows)
    then record { left = left; right = right; rows = take (hunk_length (row ∷ rows)) (row ∷ rows) }
    ∷ hunks_behind (hunk_length (row ∷ rows) - 1) (left + left_in row) (right + right_in row) rows
    else hunks_behind 0 (left + left_in row) (right + right_in row) rows

-- the hunks of all rows of two sessions
abbrev pub hunks : List Row → List Hunk
hunks rows = hunks_behind 0 0 0 rows
