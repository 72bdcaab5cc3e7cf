-- What of the rows is folded: all but the changes, and the three rows before and behind each.
use Prim.Native.Nat.{zero, suc}
use Rattle.std.specs.Prelude.{ℕ, Bool, true, List, [], ◌∷◌, if◌then◌else◌}
use Rattle.uds_difference.specs.declared.row.Row.{Row}
use Rattle.shown_rows.specs.Hunks.{begins_hunk}
use Rattle.shown_rows.specs.Rows.{context, is_change}

-- one less, and 0 of none
abbrev pub one_less : ℕ → ℕ
one_less zero = 0
one_less (suc count) = count

-- How many of the next rows are shown for a change before them (`still_shown`), behind a row, by how many were in front of
-- it: behind a change three, and else one less.
abbrev pub context_behind : ℕ → Row → ℕ
context_behind still_shown row = if is_change row then context else one_less still_shown

-- The first of these rows is shown, where so many of the next are shown for a change before them: one of those, a change, and
-- each row with a change among the three behind it.
abbrev pub is_shown : ℕ → List Row → Bool
is_shown zero rows = begins_hunk rows
is_shown (suc still_shown) rows = true

-- how many rows from the first of these on are folded together, behind one that is not shown or in front of all
abbrev pub folded : List Row → ℕ
folded [] = 0
folded (row ∷ rows) = if is_shown 0 (row ∷ rows) then 0 else suc (folded rows)
