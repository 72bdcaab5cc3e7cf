-- The rows of the table of items, as they are written one after another: the stretches that they are cut into.
use Rattle.std.proofs.Common.{◌≡◌, ℕ, zero, suc, ◌+◌, ◌-◌, Bool, true, false, List, [], ◌∷◌, ◌++◌}
use Rattle.std.proofs.Common.{length, append_assoc, append-nil, ap, ap₂, sym, ◌∙◌, arith, refl}
use Rattle.std.specs.Prelude.{nat_lt, if◌then◌else◌}
use Rattle.std.proofs.lemmas.Bool.{lt-ltb}
use Rattle.uds_difference.specs.declared.row.Row.{Row}
use Rattle.uds_difference.specs.declared.row.Row.TheVariants.{Same, Changed, OnlyLeft, OnlyRight}
use Rattle.shown_rows.specs.Changes.{changes}
use Rattle.shown_rows.specs.Folds.{context_behind, is_shown, folded as folded_in}
use Rattle.shown_rows.specs.Rows.{left_in, right_in}
use Rattle.trace_report.specs.Session.{SessionValue}
use Rattle.trace_pair.specs.declared.folds.Fold.{Fold}
use Rattle.trace_pair.specs.declared.standing.Standing.{Standing}
use Rattle.trace_pair.specs.declared.standing.Table.{Table}
use Rattle.trace_pair.specs.declared.standing.Table.TheVariants.{Closed}
use Rattle.trace_pair.specs.ItemTables.{block_count, fold_text, placed_text, stretch_text, stretches_text}
use Rattle.trace_pair.specs.RowStretches.{PlacedRow, Stretch, shown, folded, changes_with, placed, placed_from, placed_row, stretches, with_folded, with_seen}
use Rattle.trace_pair.specs.proving.Standings.{at_start, blocks_behind, fold_at, opening, rows_behind, seen_text}
use Rattle.trace_pair.specs.proving.Standings.{table_behind, table_end, with_fold, with_shown}
use Rattle.trace_pair.proofs.SeenTables.{all-seen, blocks-seen, blocks_after, seen_behind}

-- The stretches of rows, and the fold that is the first of them.

-- how many rows the fold has that is the first stretch, if one is
abbrev first_fold : List Stretch → ℕ
first_fold (folded fold ∷ later) = fold.count
first_fold _ = 0

-- the stretches behind a fold, if one is the first
abbrev behind_fold : List Stretch → List Stretch
behind_fold (folded fold ∷ later) = later
behind_fold later = later

-- a fold with one more row in front
abbrev fold_from : PlacedRow → ℕ → Fold
fold_from row count = record { left = row.place.left; right = row.place.right; count = count }

folds-one : (row : PlacedRow) (later : List Stretch) → with_folded row later ≡ folded (fold_from row (suc (first_fold later))) ∷ behind_fold later
folds-one row [] = refl
folds-one row (shown rows ∷ later) = refl
folds-one row (folded fold ∷ later) = refl

sees-one : (row : PlacedRow) (later : List Stretch) → behind_fold (with_seen row later) ≡ with_seen row later
sees-one row [] = refl
sees-one row (shown rows ∷ later) = refl
sees-one row (folded fold ∷ later) = refl

sees-none : (row : PlacedRow) (later : List Stretch) → first_fold (with_seen row later) ≡ 0
sees-none row [] = refl
sees-none row (shown rows ∷ later) = refl
sees-none row (folded fold ∷ later) = refl

fold-behind : (a b c d : List ℕ) → (a ++ b) ++ (c ++ d) ≡ a ++ ((b ++ c) ++ d)
fold-behind a b c d = simp append_assoc

module _ (all : ℕ) where
  -- the stretches of rows, by what stands before them
  abbrev cut : ℕ → Row → ℕ → ℕ → ℕ → List Row → List Stretch
  cut before front left right more rows = stretches (placed_from all before front left right more rows)

  module _ (before : ℕ) (front : Row) (left right more : ℕ) (row : Row) (rows : List Row) where
    abbrev this_row : PlacedRow
    this_row = placed_row all before front left right more row rows

    abbrev those_behind : List Stretch
    those_behind = cut (changes_with front before row) row (left + left_in row) (right + right_in row) (context_behind more row) rows

    abbrev by_seen : Bool → List Stretch
    by_seen is = if is then with_seen this_row those_behind else with_folded this_row those_behind

    cut-seen : is_shown more (row ∷ rows) ≡ true → cut before front left right more (row ∷ rows) ≡ with_seen this_row those_behind
    cut-seen e = ap by_seen e

    cut-folded : is_shown more (row ∷ rows) ≡ false
        → cut before front left right more (row ∷ rows) ≡ folded (fold_from this_row (suc (first_fold those_behind))) ∷ behind_fold those_behind
    cut-folded e = ap by_seen e ∙ folds-one this_row those_behind

  fold-none : (row : Row) (rows : List Row) → is_shown 0 (row ∷ rows) ≡ true → folded_in (row ∷ rows) ≡ 0
  fold-none row rows e = ap (λ (is : Bool). if is then 0 else suc (folded_in rows)) e

  fold-more : (row : Row) (rows : List Row) → is_shown 0 (row ∷ rows) ≡ false → folded_in (row ∷ rows) ≡ suc (folded_in rows)
  fold-more row rows e = ap (λ (is : Bool). if is then 0 else suc (folded_in rows)) e

  -- the first fold has the rows that are folded together
  abbrev IsFirst : List Row → Type 0
  IsFirst rows = (before : ℕ) (front : Row) (left right : ℕ) → first_fold (cut before front left right 0 rows) ≡ folded_in rows

  first-by : (is : Bool) (row : Row) (rows : List Row) → is_shown 0 (row ∷ rows) ≡ is → IsFirst rows
      → (before : ℕ) (front : Row) (left right : ℕ) → first_fold (cut before front left right 0 (row ∷ rows)) ≡ folded_in (row ∷ rows)
  first-by true row rows e rest before front left right =
      ap first_fold (cut-seen before front left right 0 row rows e) ∙ sees-none _ _ ∙ sym (fold-none row rows e)
  first-by false Same rows e rest before front left right =
      ap first_fold (cut-folded before front left right 0 Same rows e)
      ∙ ap (λ (n : ℕ). suc n) (rest (changes_with front before Same) Same (left + 1) (right + 1)) ∙ sym (fold-more Same rows e)
  first-by false Changed rows e rest before front left right = absurd (cc e)
  first-by false OnlyLeft rows e rest before front left right = absurd (cc e)
  first-by false OnlyRight rows e rest before front left right = absurd (cc e)

  fold-first : (rows : List Row) → IsFirst rows
  fold-first [] before front left right = refl
  fold-first (row ∷ rows) before front left right = first-by (is_shown 0 (row ∷ rows)) row rows refl (fold-first rows) before front left right

  module _ (one other : SessionValue) where
    -- stretches, where this table stands before them
    abbrev stretches_behind : Table → ℕ → List Stretch → List ℕ
    stretches_behind table blocks [] = table_end table
    stretches_behind table blocks (shown rows ∷ later) = seen_behind one other table blocks rows ++ stretches_behind Closed (blocks_after one other table blocks rows) later
    stretches_behind table blocks (folded fold ∷ later) = table_end table ++ fold_text one other fold ++ stretches_behind Closed blocks later

    -- one more row that is seen
    behind-seen : (table : Table) (blocks : ℕ) (row : PlacedRow) (later : List Stretch)
        → stretches_behind table blocks (with_seen row later)
        ≡ (opening table blocks row.place.left row.place.right ++ placed_text one other row) ++ stretches_behind (table_behind table) (blocks_behind table blocks) later
    behind-seen table blocks row [] = append-nil _
    behind-seen table blocks row (shown rows ∷ later) =
        append_assoc (opening table blocks row.place.left row.place.right ++ placed_text one other row)
        (seen_behind one other (table_behind table) (blocks_behind table blocks) rows)
        (stretches_behind Closed (blocks_after one other (table_behind table) (blocks_behind table blocks) rows) later)
    behind-seen table blocks row (folded fold ∷ later) =
        fold-behind (opening table blocks row.place.left row.place.right ++ placed_text one other row) (table_end (table_behind table)) (fold_text one other fold)
        (stretches_behind Closed (blocks_behind table blocks) later)

    -- what stands before rows
    abbrev stands : ℕ → ℕ → Row → ℕ → ℕ → ℕ → Table → ℕ → Standing
    stands inside more front left right before table blocks =
        record { folded = inside; still_shown = more; front = front; left = left; right = right; changes = before; table = table; blocks = blocks }

    -- Rows that are written one after another are their stretches: in front of a fold, and within one.
    record AreStretches (rows : List Row) : Type 0 where
      free : (more : ℕ) (front : Row) (left right before : ℕ) (table : Table) (blocks : ℕ)
          → rows_behind one other all (stands 0 more front left right before table blocks) rows ≡ stretches_behind table blocks (cut before front left right more rows)
      within : (front : Row) (left right before blocks : ℕ)
          → rows_behind one other all (stands (folded_in rows) 0 front left right before Closed blocks) rows
          ≡ stretches_behind Closed blocks (behind_fold (cut before front left right 0 rows))

    module _ (rows : List Row) (rest : AreStretches rows) where
      -- the text from a row on, by whether it is seen
      abbrev text_by : ℕ → Row → ℕ → ℕ → ℕ → Table → ℕ → Row → Bool → List ℕ
      text_by more front left right before table blocks row is =
          (if is then opening table blocks left right ++ placed_text one other (placed_row all before front left right more row rows)
          else table_end table ++ fold_text one other (record { left = left; right = right; count = folded_in (row ∷ rows) }))
          ++ rows_behind one other all
          (if is then stands 0 (context_behind more row) row (left + left_in row) (right + right_in row) (changes_with front before row) (table_behind table) (blocks_behind table blocks)
          else stands (folded_in (row ∷ rows) - 1) (context_behind more row) row (left + left_in row) (right + right_in row) (changes_with front before row) Closed blocks) rows

      seen-free : (more : ℕ) (front : Row) (left right before : ℕ) (table : Table) (blocks : ℕ) (row : Row) → is_shown more (row ∷ rows) ≡ true
          → rows_behind one other all (stands 0 more front left right before table blocks) (row ∷ rows) ≡ stretches_behind table blocks (cut before front left right more (row ∷ rows))
      seen-free more front left right before table blocks row e =
          ap (text_by more front left right before table blocks row) e
          ∙ ap (λ (text : List ℕ). (opening table blocks left right ++ placed_text one other (placed_row all before front left right more row rows)) ++ text)
          (rest.free (context_behind more row) row (left + left_in row) (right + right_in row) (changes_with front before row) (table_behind table) (blocks_behind table blocks))
          ∙ sym (behind-seen table blocks (placed_row all before front left right more row rows) _)
          ∙ sym (ap (stretches_behind table blocks) (cut-seen before front left right more row rows e))

      folded-free : (front : Row) (left right before : ℕ) (table : Table) (blocks : ℕ) → is_shown 0 (Same ∷ rows) ≡ false
          → rows_behind one other all (stands 0 0 front left right before table blocks) (Same ∷ rows) ≡ stretches_behind table blocks (cut before front left right 0 (Same ∷ rows))
      folded-free front left right before table blocks e =
          let begun = changes_with front before Same in
          let fold = λ (count : ℕ). table_end table ++ fold_text one other (record { left = left; right = right; count = count }) in
          let less : suc (folded_in rows) - 1 ≡ folded_in rows = omega arith in
          ap (text_by 0 front left right before table blocks Same) e
          ∙ ap (λ (n : ℕ). fold n ++ rows_behind one other all (stands (n - 1) 0 Same (left + 1) (right + 1) begun Closed blocks) rows) (fold-more Same rows e)
          ∙ ap (λ (n : ℕ). fold (suc (folded_in rows)) ++ rows_behind one other all (stands n 0 Same (left + 1) (right + 1) begun Closed blocks) rows) less
          ∙ ap (λ (text : List ℕ). fold (suc (folded_in rows)) ++ text) (rest.within Same (left + 1) (right + 1) begun blocks)
          ∙ ap (λ (n : ℕ). table_end table ++ fold_text one other (record { left = left; right = right; count = suc n }) ++ stretches_behind Closed blocks (behind_fold (cut begun Same (left + 1) (right + 1) 0 rows)))
          (sym (fold-first rows begun Same (left + 1) (right + 1)))
          ∙ sym (ap (stretches_behind table blocks) (cut-folded before front left right 0 Same rows e))

      -- one more row of a fold
      within-more : (more : ℕ) (front : Row) (left right before blocks : ℕ)
          → rows_behind one other all (stands (suc more) 0 front left right before Closed blocks) (Same ∷ rows)
          ≡ rows_behind one other all (stands more 0 Same (left + 1) (right + 1) (changes_with front before Same) Closed blocks) rows
      within-more more front left right before blocks =
          let some : nat_lt 0 (suc more) ≡ true = lt-ltb 0 (suc more) (omega arith) in
          let less : suc more - 1 ≡ more = omega arith in
          let at = stands (suc more) 0 front left right before Closed blocks in
          let by = λ (within : Bool).
          (if within then [] else if is_shown 0 (Same ∷ rows) then seen_text one other all at Same rows else table_end Closed ++ fold_text one other (fold_at at (folded_in (Same ∷ rows))))
          ++ rows_behind one other all (if within then with_fold (suc more) Same at else if is_shown 0 (Same ∷ rows) then with_shown Same at else with_fold (folded_in (Same ∷ rows)) Same at) rows in
          ap by some ∙ ap (λ (n : ℕ). rows_behind one other all (stands n 0 Same (left + 1) (right + 1) (changes_with front before Same) Closed blocks) rows) less

      step-free : (row : Row) (more : ℕ) (is : Bool) → is_shown more (row ∷ rows) ≡ is → (front : Row) (left right before : ℕ) (table : Table) (blocks : ℕ)
          → rows_behind one other all (stands 0 more front left right before table blocks) (row ∷ rows) ≡ stretches_behind table blocks (cut before front left right more (row ∷ rows))
      step-free row more true e front left right before table blocks = seen-free more front left right before table blocks row e
      step-free Same zero false e front left right before table blocks = folded-free front left right before table blocks e
      step-free Changed zero false e front left right before table blocks = absurd (cc e)
      step-free OnlyLeft zero false e front left right before table blocks = absurd (cc e)
      step-free OnlyRight zero false e front left right before table blocks = absurd (cc e)
      step-free row (suc more) false e front left right before table blocks = absurd (cc e)

      -- within a fold
      step-within : (row : Row) (is : Bool) → is_shown 0 (row ∷ rows) ≡ is → (front : Row) (left right before blocks : ℕ)
          → rows_behind one other all (stands (folded_in (row ∷ rows)) 0 front left right before Closed blocks) (row ∷ rows)
          ≡ stretches_behind Closed blocks (behind_fold (cut before front left right 0 (row ∷ rows)))
      step-within row true e front left right before blocks =
          ap (λ (n : ℕ). rows_behind one other all (stands n 0 front left right before Closed blocks) (row ∷ rows)) (fold-none row rows e)
          ∙ seen-free 0 front left right before Closed blocks row e
          ∙ ap (stretches_behind Closed blocks) (cut-seen before front left right 0 row rows e ∙ sym (sees-one _ _) ∙ sym (ap behind_fold (cut-seen before front left right 0 row rows e)))
      step-within Same false e front left right before blocks =
          ap (λ (n : ℕ). rows_behind one other all (stands n 0 front left right before Closed blocks) (Same ∷ rows)) (fold-more Same rows e)
          ∙ within-more (folded_in rows) front left right before blocks
          ∙ rest.within Same (left + 1) (right + 1) (changes_with front before Same) blocks
          ∙ sym (ap (λ (later : List Stretch). stretches_behind Closed blocks (behind_fold later)) (cut-folded before front left right 0 Same rows e))
      step-within Changed false e front left right before blocks = absurd (cc e)
      step-within OnlyLeft false e front left right before blocks = absurd (cc e)
      step-within OnlyRight false e front left right before blocks = absurd (cc e)

    are-stretches : (rows : List Row) → AreStretches rows
    are-stretches [] = record {
      free = λ more front left right before table blocks. refl;
      within = λ front left right before blocks. refl;
    }
    are-stretches (row ∷ rows) = record {
      free = λ more. step-free rows (are-stretches rows) row more (is_shown more (row ∷ rows)) refl;
      within = step-within rows (are-stretches rows) row (is_shown 0 (row ∷ rows)) refl;
    }

    -- where no table stands, stretches are written by their tables
    are-tables : (later : List Stretch) (blocks : ℕ) → stretches_behind Closed blocks later ≡ stretches_text one other blocks later
    are-tables [] blocks = refl
    are-tables (shown rows ∷ later) blocks =
        ap₂ (λ (text : List ℕ) (n : ℕ). text ++ stretches_behind Closed n later) (all-seen one other blocks rows) (blocks-seen one other blocks rows)
        ∙ ap (λ (text : List ℕ). stretch_text one other blocks (shown rows) ++ text) (are-tables later (blocks + block_count (shown rows)))
    are-tables (folded fold ∷ later) blocks =
        let none : blocks ≡ blocks + 0 = omega arith in
        ap (λ (text : List ℕ). fold_text one other fold ++ text) (are-tables later blocks ∙ ap (λ (n : ℕ). stretches_text one other n later) none)

-- the text of all rows, one after another
pub walked : (one other : SessionValue) (rows : List Row)
    → rows_behind one other (length (changes rows)) at_start rows ≡ stretches_text one other 0 (stretches (placed rows))
walked one other rows =
    let all = length (changes rows) in
    (are-stretches all one other rows).free 0 Same 0 0 0 Closed 0 ∙ are-tables all one other (stretches (placed rows)) 0
