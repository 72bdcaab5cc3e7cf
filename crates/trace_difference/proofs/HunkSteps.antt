-- The hunks of one row after another.
use Rattle.std.proofs.Common.{◌≡◌, ℕ, zero, suc, ◌+◌, ◌-◌, ◌<◌, true, false, List, ◌∷◌, ◌++◌, take, arith, refl}
use Rattle.std.specs.List.{flat_map}
use Rattle.uds_difference.specs.declared.row.Row.{Row}
use Rattle.shown_rows.specs.Hunks.{Hunk, begins_hunk, hunk_length, hunks_behind}
use Rattle.shown_rows.specs.Rows.{left_in, right_in}
use Rattle.trace_difference.specs.proving.HunkOf.{hunk_of}

module _ (text : Hunk → List ℕ) where
  -- the text of the hunks that are left
  abbrev pub hunks_left : ℕ → ℕ → ℕ → List Row → List ℕ
  hunks_left shown i j rows = flat_map text (hunks_behind shown i j rows)

  pub in-hunk : (shown i j : ℕ) (row : Row) (later : List Row) → 0 < shown
      → hunks_left shown i j (row ∷ later) ≡ hunks_left (shown - 1) (i + left_in row) (j + right_in row) later
  in-hunk zero i j row later more = absurd (omega arith)
  in-hunk (suc shown) i j row later more = let next : suc shown - 1 ≡ shown = omega arith in rw next refl

  pub at-hunk : (i j : ℕ) (row : Row) (later : List Row) → begins_hunk (row ∷ later) ≡ true
      → hunks_left 0 i j (row ∷ later)
      ≡ text (hunk_of i j (take (hunk_length (row ∷ later)) (row ∷ later)))
      ++ hunks_left (hunk_length (row ∷ later) - 1) (i + left_in row) (j + right_in row) later
  at-hunk i j row later near = rw near refl

  pub before-hunk : (i j : ℕ) (row : Row) (later : List Row) → begins_hunk (row ∷ later) ≡ false
      → hunks_left 0 i j (row ∷ later) ≡ hunks_left 0 (i + left_in row) (j + right_in row) later
  before-hunk i j row later far = rw far refl
