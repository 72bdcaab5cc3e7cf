-- The rows of the table of items: each once, with its items and its number.
use Rattle.std.proofs.Common.{◌≡◌, ℕ, zero, suc, ◌+◌, ◌-◌, ◌/◌, min, Bool, true, false, List, [], ◌∷◌, ◌++◌}
use Rattle.std.proofs.Common.{map, length, take, drop, ap, ap₂, sym, ◌∙◌, arith, refl, option_to_list}
use Rattle.std.specs.Prelude.{if◌then◌else◌, Some, None}
use Rattle.std.specs.List.{flat_map, range_with_len}
use Rattle.std.proofs.lemmas.List.{length-drop, take-append-drop}
use Rattle.uds_difference.specs.Rows.{rows_of}
use Rattle.uds_difference.specs.declared.row.Row.{Row}
use Rattle.uds_difference.specs.declared.row.Row.TheVariants.{Same, Changed, OnlyLeft, OnlyRight}
use Rattle.shown_rows.specs.declared.changes.Change.{Change}
use Rattle.shown_rows.specs.Changes.{begins_change, change, change_length, changes, changes_from}
use Rattle.shown_rows.specs.Folds.{context_behind, is_shown}
use Rattle.shown_rows.specs.Rows.{left_in, right_in}
use Rattle.pair_words.specs.declared.log.PairLog.TheVariants.{A, B}
use Rattle.trace_pair.specs.ItemRows.{begun_number}
use Rattle.trace_pair.specs.TableLaws.{EachItemStandsOnce, EachRowStandsOnce, item_place, kind_of, rows_in, rows_of_table, table_rows}
use Rattle.trace_pair.specs.LinkLaws.{LinksHaveTargets, identifier}
use Rattle.trace_pair.specs.RowStretches.{PlacedRow, Stretch, shown, folded, begun, changes_with, fold_rows, folded_row, parts_of, placed}
use Rattle.trace_pair.specs.RowStretches.{placed_from, placed_row, same_rows, stretches, tables_of, with_folded, with_seen}
use Rattle.trace_pair.proofs.ItemPlaces.{left-placed, left_places, right-placed, right_places}

-- The tables of a stretch have its rows.

pub tables-have : (more : ℕ) (rows : List PlacedRow) → more ≡ (length rows + 199) / 200 → flat_map rows_of_table (tables_of more rows) ≡ rows
tables-have zero [] is = refl
tables-have zero (row ∷ rows) is = absurd (omega (arith, is))
tables-have (suc more) rows is =
    let cut = length-drop 200 rows in
    ap (λ (l : List PlacedRow). take 200 rows ++ l) (tables-have more (drop 200 rows) (omega (arith, is, cut))) ∙ take-append-drop 200 rows

same-apart : (k count left right : ℕ) → same_rows left right (min k count) ++ same_rows (left + k) (right + k) (count - k) ≡ same_rows left right count
same-apart zero count left right =
    let a : left + 0 ≡ left = omega arith in
    let b : right + 0 ≡ right = omega arith in
    let none : min 0 count ≡ 0 = omega arith in
    let all : count - 0 ≡ count = omega arith in
    (λ i. same_rows left right (none i) ++ same_rows (a i) (b i) (all i))
same-apart (suc k) zero left right =
    let few : min (suc k) 0 ≡ 0 = omega arith in
    let none : 0 - suc k ≡ 0 = omega arith in
    (λ i. same_rows left right (few i) ++ same_rows (left + suc k) (right + suc k) (none i))
same-apart (suc k) (suc count) left right =
    let few : min (suc k) (suc count) ≡ suc (min k count) = omega arith in
    let more : suc count - suc k ≡ count - k = omega arith in
    let a : left + suc k ≡ left + 1 + k = omega arith in
    let b : right + suc k ≡ right + 1 + k = omega arith in
    (λ i. same_rows left right (few i) ++ same_rows (a i) (b i) (more i))
    ∙ ap (λ (l : List PlacedRow). folded_row left right ∷ l) (same-apart k count (left + 1) (right + 1))

parts-have : (more : ℕ) (left right count : ℕ) → more ≡ (count + 199) / 200
    → flat_map fold_rows (parts_of more (record { left = left; right = right; count = count })) ≡ same_rows left right count
parts-have zero left right count is = let none : 0 ≡ count = omega (arith, is) in ap (same_rows left right) none
parts-have (suc more) left right count is =
    ap (λ (l : List PlacedRow). same_rows left right (min 200 count) ++ l) (parts-have more (left + 200) (right + 200) (count - 200) (omega (arith, is)))
    ∙ same-apart 200 count left right

-- the rows of a stretch
abbrev own : Stretch → List PlacedRow
own (shown rows) = rows
own (folded fold) = fold_rows fold

in-tables : (here : Stretch) → rows_in here ≡ own here
in-tables (shown rows) = tables-have ((length rows + 199) / 200) rows refl
in-tables (folded fold) = parts-have ((fold.count + 199) / 200) fold.left fold.right fold.count refl

all-in-tables : (all : List Stretch) → flat_map rows_in all ≡ flat_map own all
all-in-tables [] = refl
all-in-tables (here ∷ later) = ap₂ (λ (a b : List PlacedRow). a ++ b) (in-tables here) (all-in-tables later)

-- Stretches have each row.

-- the fold that is the first stretch, if one is, begins behind so many items of both logs
abbrev BeginsAt : ℕ → ℕ → List Stretch → Type 0
BeginsAt left right (folded fold ∷ later) = (fold.left ≡ left) × (fold.right ≡ right)
BeginsAt left right (shown rows ∷ later) = Unit {0}
BeginsAt left right [] = Unit {0}

seen-begins : (left right : ℕ) (row : PlacedRow) (later : List Stretch) → BeginsAt left right (with_seen row later)
seen-begins left right row [] = tt
seen-begins left right row (shown rows ∷ later) = tt
seen-begins left right row (folded fold ∷ later) = tt

folded-begins : (row : PlacedRow) (later : List Stretch) → BeginsAt row.place.left row.place.right (with_folded row later)
folded-begins row [] = (refl, refl)
folded-begins row (shown rows ∷ later) = (refl, refl)
folded-begins row (folded fold ∷ later) = (refl, refl)

one-begins : (is : Bool) (row : PlacedRow) (later : List Stretch) → BeginsAt row.place.left row.place.right (if is then with_seen row later else with_folded row later)
one-begins true row later = seen-begins row.place.left row.place.right row later
one-begins false row later = folded-begins row later

one-seen : (row : PlacedRow) (later : List Stretch) → flat_map own (with_seen row later) ≡ row ∷ flat_map own later
one-seen row [] = refl
one-seen row (shown rows ∷ later) = refl
one-seen row (folded fold ∷ later) = refl

one-folded : (left right : ℕ) (later : List Stretch) → BeginsAt (left + 1) (right + 1) later
    → flat_map own (with_folded (folded_row left right) later) ≡ folded_row left right ∷ flat_map own later
one-folded left right [] begins = refl
one-folded left right (shown rows ∷ later) begins = refl
one-folded left right (folded fold ∷ later) begins =
    ap₂ (λ (a b : ℕ). folded_row left right ∷ (same_rows a b fold.count ++ flat_map own later)) (sym begins.0) (sym begins.1)

module _ (all : ℕ) where
  begins-at : (before : ℕ) (front : Row) (left right more : ℕ) (rows : List Row) → BeginsAt left right (stretches (placed_from all before front left right more rows))
  begins-at before front left right more [] = tt
  begins-at before front left right more (row ∷ rows) =
      one-begins (is_shown more (row ∷ rows)) (placed_row all before front left right more row rows)
      (stretches (placed_from all (changes_with front before row) row (left + left_in row) (right + right_in row) (context_behind more row) rows))

  -- rows in their places are cut into stretches that have them
  abbrev AreOnce : List Row → Type 0
  AreOnce rows = (before : ℕ) (front : Row) (left right more : ℕ)
      → flat_map own (stretches (placed_from all before front left right more rows)) ≡ placed_from all before front left right more rows

  once-seen : (before : ℕ) (front : Row) (left right more : ℕ) (row : Row) (rows : List Row) → is_shown more (row ∷ rows) ≡ true → AreOnce rows
      → flat_map own (stretches (placed_from all before front left right more (row ∷ rows))) ≡ placed_from all before front left right more (row ∷ rows)
  once-seen before front left right more row rows e rest =
      let here = placed_row all before front left right more row rows in
      let behind = placed_from all (changes_with front before row) row (left + left_in row) (right + right_in row) (context_behind more row) rows in
      ap (λ (is : Bool). flat_map own (if is then with_seen here (stretches behind) else with_folded here (stretches behind))) e
      ∙ one-seen here (stretches behind)
      ∙ ap (λ (l : List PlacedRow). here ∷ l) (rest (changes_with front before row) row (left + left_in row) (right + right_in row) (context_behind more row))

  begun-none : (front : Row) (before : ℕ) (rows : List Row) → begun front before all Same rows ≡ None
  begun-none Same before rows = refl
  begun-none Changed before rows = refl
  begun-none OnlyLeft before rows = refl
  begun-none OnlyRight before rows = refl

  once-folded : (before : ℕ) (front : Row) (left right : ℕ) (rows : List Row) → is_shown 0 (Same ∷ rows) ≡ false → AreOnce rows
      → flat_map own (stretches (placed_from all before front left right 0 (Same ∷ rows))) ≡ placed_from all before front left right 0 (Same ∷ rows)
  once-folded before front left right rows e rest =
      let count = changes_with front before Same in
      let here = placed_row all before front left right 0 Same rows in
      let behind = placed_from all count Same (left + 1) (right + 1) 0 rows in
      let none = begun-none front before rows in
      let is : here ≡ folded_row left right = (λ i. record { place = record { kind = Same; left = left; right = right }; begins = none i; is_seen = e i }) in
      ap (λ (is : Bool). flat_map own (if is then with_seen here (stretches behind) else with_folded here (stretches behind))) e
      ∙ ap (λ (row : PlacedRow). flat_map own (with_folded row (stretches behind))) is
      ∙ one-folded left right (stretches behind) (begins-at count Same (left + 1) (right + 1) 0 rows)
      ∙ ap₂ (λ (row : PlacedRow) (l : List PlacedRow). row ∷ l) (sym is) (rest count Same (left + 1) (right + 1) 0)

  once-by : (is : Bool) (row : Row) (more : ℕ) (before : ℕ) (front : Row) (left right : ℕ) (rows : List Row) → is_shown more (row ∷ rows) ≡ is → AreOnce rows
      → flat_map own (stretches (placed_from all before front left right more (row ∷ rows))) ≡ placed_from all before front left right more (row ∷ rows)
  once-by true row more before front left right rows e rest = once-seen before front left right more row rows e rest
  once-by false Same zero before front left right rows e rest = once-folded before front left right rows e rest
  once-by false Changed zero before front left right rows e rest = absurd (cc e)
  once-by false OnlyLeft zero before front left right rows e rest = absurd (cc e)
  once-by false OnlyRight zero before front left right rows e rest = absurd (cc e)
  once-by false row (suc more) before front left right rows e rest = absurd (cc e)

  once : (rows : List Row) → AreOnce rows
  once [] before front left right more = refl
  once (row ∷ rows) before front left right more = once-by (is_shown more (row ∷ rows)) row more before front left right rows refl (once rows)

  kinds : (before : ℕ) (front : Row) (left right more : ℕ) (rows : List Row) → map kind_of (placed_from all before front left right more rows) ≡ rows
  kinds before front left right more [] = refl
  kinds before front left right more (row ∷ rows) = ap (λ (l : List Row). row ∷ l) (kinds (changes_with front before row) row (left + left_in row) (right + right_in row) (context_behind more row) rows)

  -- The places of items.

  left-places : (before : ℕ) (front : Row) (left right more : ℕ) (rows : List Row) → flat_map (item_place A) (placed_from all before front left right more rows) ≡ left_places left rows
  left-places before front left right more [] = refl
  left-places before front left right more (Same ∷ rows) = ap (λ (l : List ℕ). left ∷ l) (left-places (changes_with front before Same) Same (left + 1) (right + 1) (context_behind more Same) rows)
  left-places before front left right more (Changed ∷ rows) = ap (λ (l : List ℕ). left ∷ l) (left-places (changes_with front before Changed) Changed (left + 1) (right + 1) (context_behind more Changed) rows)
  left-places before front left right more (OnlyLeft ∷ rows) = ap (λ (l : List ℕ). left ∷ l) (left-places (changes_with front before OnlyLeft) OnlyLeft (left + 1) (right + 0) (context_behind more OnlyLeft) rows)
  left-places before front left right more (OnlyRight ∷ rows) =
      let none : left + 0 ≡ left = omega arith in
      left-places (changes_with front before OnlyRight) OnlyRight (left + 0) (right + 1) (context_behind more OnlyRight) rows ∙ ap (λ (n : ℕ). left_places n rows) none

  right-places : (before : ℕ) (front : Row) (left right more : ℕ) (rows : List Row) → flat_map (item_place B) (placed_from all before front left right more rows) ≡ right_places right rows
  right-places before front left right more [] = refl
  right-places before front left right more (Same ∷ rows) = ap (λ (l : List ℕ). right ∷ l) (right-places (changes_with front before Same) Same (left + 1) (right + 1) (context_behind more Same) rows)
  right-places before front left right more (Changed ∷ rows) = ap (λ (l : List ℕ). right ∷ l) (right-places (changes_with front before Changed) Changed (left + 1) (right + 1) (context_behind more Changed) rows)
  right-places before front left right more (OnlyRight ∷ rows) = ap (λ (l : List ℕ). right ∷ l) (right-places (changes_with front before OnlyRight) OnlyRight (left + 0) (right + 1) (context_behind more OnlyRight) rows)
  right-places before front left right more (OnlyLeft ∷ rows) =
      let none : right + 0 ≡ right = omega arith in
      right-places (changes_with front before OnlyLeft) OnlyLeft (left + 1) (right + 0) (context_behind more OnlyLeft) rows ∙ ap (λ (n : ℕ). right_places n rows) none

  -- The numbers of changes.

  -- one more row, with which a change begins or none does
  one-number : (begins : Bool) (before count : ℕ) (rest : ℕ → List PlacedRow) (here : Change) (others : List Change)
      → ((n : ℕ) → flat_map identifier (rest n) ≡ range_with_len (n + 1) (length others))
      → option_to_list (begun_number (if begins then Some (record { number = before + 1; all = all; count = count }) else None))
      ++ flat_map identifier (rest (if begins then before + 1 else before))
      ≡ range_with_len (before + 1) (length (if begins then here ∷ others else others))
  one-number true before count rest here others numbered = ap (λ (l : List ℕ). (before + 1) ∷ l) (numbered (before + 1))
  one-number false before count rest here others numbered = numbered before

  numbers : (before : ℕ) (front : Row) (left right more : ℕ) (rows : List Row)
      → flat_map identifier (placed_from all before front left right more rows) ≡ range_with_len (before + 1) (length (changes_from front left right rows))
  numbers before front left right more [] = refl
  numbers before front left right more (row ∷ rows) =
      one-number (begins_change front row) before (change_length row rows)
      (λ (n : ℕ). placed_from all n row (left + left_in row) (right + right_in row) (context_behind more row) rows)
      (change row left right (change_length row rows)) (changes_from row (left + left_in row) (right + right_in row) rows)
      (λ (n : ℕ). numbers n row (left + left_in row) (right + right_in row) (context_behind more row) rows)

-- The laws.

pub of-table : (rows : List Row) → table_rows rows ≡ placed rows
of-table rows = all-in-tables (stretches (placed rows)) ∙ once (length (changes rows)) rows 0 Same 0 0 0

pub each_row_stands_once : EachRowStandsOnce
each_row_stands_once rows = (of-table rows, ap (map kind_of) (of-table rows) ∙ kinds (length (changes rows)) 0 Same 0 0 0 rows)

pub each_item_stands_once : EachItemStandsOnce
each_item_stands_once xs ys =
    let rows = rows_of xs ys in
    let all = length (changes rows) in (
      ap (flat_map (item_place A)) (of-table rows) ∙ left-places all 0 Same 0 0 0 rows ∙ left-placed xs ys,
      ap (flat_map (item_place B)) (of-table rows) ∙ right-places all 0 Same 0 0 0 rows ∙ right-placed xs ys,
    )

pub links_have_targets : LinksHaveTargets
links_have_targets rows = ap (flat_map identifier) (of-table rows) ∙ numbers (length (changes rows)) 0 Same 0 0 0 rows
