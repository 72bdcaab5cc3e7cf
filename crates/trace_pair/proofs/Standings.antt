-- What stands before a row of the table of items, with one row more.
use Rattle.std.proofs.Common.{◌≡◌, ℕ, ◌+◌, ◌-◌, ◌≤◌, ◌<◌, ◌^◌, Bool, true, false, List, [], ◌∷◌, ◌++◌, length, take, drop, ap, sym, ◌∙◌, arith}
use Rattle.std.specs.Prelude.{nat_lt, if◌then◌else◌}
use Rattle.std.proofs.lemmas.Bool.{le-ltb, leb-true}
use Rattle.std.proofs.lemmas.List.{length-drop, take_rest}
use Rattle.uds_difference.specs.declared.row.Row.{Row}
use Rattle.uds_difference.specs.declared.row.Row.TheVariants.{Same, Changed, OnlyLeft, OnlyRight}
use Rattle.shown_rows.specs.Changes.{begins_change}
use Rattle.shown_rows.specs.Folds.{folded, is_shown}
use Rattle.shown_rows.specs.Rows.{left_in, right_in}
use Rattle.trace_pair.specs.declared.standing.Standing.{Standing}
use Rattle.trace_pair.specs.declared.standing.Table.{Table}
use Rattle.trace_pair.specs.declared.standing.Table.TheVariants.{Closed, Open, Block}
use Rattle.trace_pair.specs.ItemTables.{block_start}
use Rattle.trace_pair.specs.RowStretches.{changes_with}
use Rattle.trace_pair.specs.proving.Standings.{IsRoomy, blocks_behind, is_full, opening, table_end, standing_behind, with_fold, with_shown}

left-one : (row : Row) → left_in row ≤ 1
left-one Same = omega arith
left-one Changed = omega arith
left-one OnlyLeft = omega arith
left-one OnlyRight = omega arith

right-one : (row : Row) → right_in row ≤ 1
right-one Same = omega arith
right-one Changed = omega arith
right-one OnlyLeft = omega arith
right-one OnlyRight = omega arith

one-change : (front : Row) (before : ℕ) (row : Row) → changes_with front before row ≤ before + 1
one-change front before row = by (begins_change front row)
  where
    by : (begins : Bool) → (if begins then before + 1 else before) ≤ before + 1
    by true = omega arith
    by false = omega arith

one-block : (table : Table) (before : ℕ) → blocks_behind table before ≤ before + 1
one-block Closed before = omega arith
one-block (Open rows) before = by (nat_lt rows 200)
  where
    by : (room : Bool) → (if room then before else before + 1) ≤ before + 1
    by true = omega arith
    by false = omega arith
one-block (Block rows) before = by (nat_lt rows 200)
  where
    by : (room : Bool) → (if room then before else before + 1) ≤ before + 1
    by true = omega arith
    by false = omega arith

module _ (at : Standing) (row : Row) (later : List Row) where
  -- behind a row that is within a fold, is shown, or begins a fold
  abbrev behind : Bool → Bool → Standing
  behind within is =
      if within then with_fold at.folded row at
      else if is then with_shown row at
      else with_fold (folded (row ∷ later)) row at

  pub left-small : (k : ℕ) → at.left ≤ k → (standing_behind at row later).left ≤ k + 1
  left-small k small = by (nat_lt 0 at.folded) (is_shown at.still_shown (row ∷ later))
    where
      by : (within is : Bool) → (behind within is).left ≤ k + 1
      by true is = omega (arith, small, left-one row)
      by false true = omega (arith, small, left-one row)
      by false false = omega (arith, small, left-one row)

  pub right-small : (k : ℕ) → at.right ≤ k → (standing_behind at row later).right ≤ k + 1
  right-small k small = by (nat_lt 0 at.folded) (is_shown at.still_shown (row ∷ later))
    where
      by : (within is : Bool) → (behind within is).right ≤ k + 1
      by true is = omega (arith, small, right-one row)
      by false true = omega (arith, small, right-one row)
      by false false = omega (arith, small, right-one row)

  pub changes-small : (k : ℕ) → at.changes ≤ k → (standing_behind at row later).changes ≤ k + 1
  changes-small k small = by (nat_lt 0 at.folded) (is_shown at.still_shown (row ∷ later))
    where
      one : changes_with at.front at.changes row ≤ at.changes + 1
      one = one-change at.front at.changes row

      by : (within is : Bool) → (behind within is).changes ≤ k + 1
      by true is = omega (arith, small, one)
      by false true = omega (arith, small, one)
      by false false = omega (arith, small, one)

  pub blocks-small : (k : ℕ) → at.blocks ≤ k → (standing_behind at row later).blocks ≤ k + 1
  blocks-small k small = by (nat_lt 0 at.folded) (is_shown at.still_shown (row ∷ later))
    where
      one : blocks_behind at.table at.blocks ≤ at.blocks + 1
      one = one-block at.table at.blocks

      by : (within is : Bool) → (behind within is).blocks ≤ k + 1
      by true is = omega (arith, small)
      by false true = omega (arith, small, one)
      by false false = omega (arith, small)

-- what stands before a row has room for those from it on
pub roomy : (at : Standing) (rows : List Row) (k : ℕ) → length rows < 2 ^ 63 → k < length rows → at.left ≤ k → at.right ≤ k → at.changes ≤ k → at.blocks ≤ k
    → IsRoomy at (length (take (length rows - k) (drop k rows)))
roomy at rows k few below left right changes blocks =
    let rest : length (take (length rows - k) (drop k rows)) ≡ length rows - k = ap (λ (l : List Row). length l) (take_rest rows k) ∙ length-drop k rows in
    record { left = omega (arith, rest, few, below, left); right = omega (arith, rest, few, below, right); changes = omega (arith, rest, few, below, changes); blocks = omega (arith, rest, few, below, blocks) }

-- behind a table that is full, a block begins
of-full : (table : Table) (blocks left right : ℕ) → is_full table ≡ true → table_end table ++ block_start blocks left right ≡ opening table blocks left right
of-full Closed blocks left right full = absurd (cc full)
of-full (Open rows) blocks left right full =
    sym (ap (λ (room : Bool). if room then [] else table_end (Open rows) ++ block_start blocks left right) (le-ltb rows 200 (leb-true 200 rows full)))
of-full (Block rows) blocks left right full =
    sym (ap (λ (room : Bool). if room then [] else table_end (Block rows) ++ block_start blocks left right) (le-ltb rows 200 (leb-true 200 rows full)))

pub what-begins : (at : Standing) → is_full at.table ≡ true → table_end at.table ++ block_start at.blocks at.left at.right ≡ opening at.table at.blocks at.left at.right
what-begins at full = of-full at.table at.blocks at.left at.right full
