-- The row that has an item, looked for in one row after another.
use Rattle.std.proofs.Common.{◌≡◌, ℕ, zero, suc, ◌+◌, ◌≤◌, ◌<◌, Bool, true, false, List, [], ◌∷◌, Option}
use Rattle.std.proofs.Common.{Some, None, length, drop, get_or, ap, sym, ◌∙◌, arith, refl, inl, inr}
use Rattle.std.specs.Prelude.{◌==◌, ◌&&◌}
use Rattle.std.proofs.lemmas.Bool.{cases_Bool, ne_eqb}
use Rattle.std.proofs.lemmas.List.{drop_all, drop_more}
use Rattle.shown_rows.specs.Rows.{changes_within, left_in, right_in}
use Rattle.uds_difference.specs.declared.row.Row.{Row}
use Rattle.uds_difference.specs.declared.row.Row.TheVariants.{Same, Changed, OnlyLeft, OnlyRight}
use Rattle.trace_pair.specs.declared.item_row.RowPlace.{RowPlace}
use Rattle.pair_words.specs.declared.log.PairLog.{PairLog}
use Rattle.pair_words.specs.declared.log.PairLog.TheVariants.{A, B}
use Rattle.trace_pair.specs.Counterparts.{has_number, marks_of, row_behind, row_from, row_with}
use Rattle.trace_pair.specs.ItemRows.{place_in}
use Rattle.pair_words.specs.Logs.{has_item}

-- as few items of a log stand before a row as of both
pub place-below : (log : PairLog) (left right most : ℕ) (kind : Row) → left < most → right < most → place_in log (row_behind left right kind) < most
place-below A left right most kind few less = few
place-below B left right most kind few less = less

module _ (log : PairLog) (number left right : ℕ) (row : Row) (later : List Row) where
  pub row-here : has_number log number (row_behind left right row) ≡ true → row_from log number left right (row ∷ later) ≡ Some (row_behind left right row)
  row-here is = rw is refl

  pub row-later : has_number log number (row_behind left right row) ≡ false
      → row_from log number left right (row ∷ later) ≡ row_from log number (left + left_in row) (right + right_in row) later
  row-later is = rw is refl

-- a row has not the item of a number that is no next one in either log
not-there : (log : PairLog) (number left right : ℕ) (row : Row) → (left + 1 ≡ number → ⊥) → (right + 1 ≡ number → ⊥) → has_number log number (row_behind left right row) ≡ false
not-there A number left right row other another = by (has_item A row)
  where
    by : (has : Bool) → (has && left + 1 == number) ≡ false
    by true = ne_eqb (left + 1) number other
    by false = refl
not-there B number left right row other another = by (has_item B row)
  where
    by : (has : Bool) → (has && right + 1 == number) ≡ false
    by true = ne_eqb (right + 1) number another
    by false = refl

-- nor has any row the item of a number that stands before them
none-behind : (log : PairLog) (number left right : ℕ) (rows : List Row) → number ≤ left → number ≤ right → row_from log number left right rows ≡ None
none-behind log number left right [] before earlier = refl
none-behind log number left right (row ∷ rows) before earlier =
    row-later log number left right row rows (not-there log number left right row (λ is. omega (arith, is, before)) (λ is. omega (arith, is, earlier)))
    ∙ none-behind log number (left + left_in row) (right + right_in row) rows (omega (arith, before)) (omega (arith, earlier))

-- what is told of rows that are the same, and where none has the item, is told of each item up to the first change
module _ {X : Type 0} (told : Option RowPlace → X) (nothing : X) (of_none : told None ≡ nothing) (of_same : (at : ℕ) → told (Some (row_behind at at Same)) ≡ nothing) where
  pub in-front : (log : PairLog) (number at count : ℕ) (rows : List Row) → changes_within count rows ≡ false → number ≤ at + count → told (row_from log number at at rows) ≡ nothing
  in-front log number at zero rows same before = ap told (none-behind log number at at rows (omega (arith, before)) (omega (arith, before))) ∙ of_none
  in-front log number at (suc count) [] same before = of_none
  in-front log number at (suc count) (Same ∷ rows) same before = elim (cases_Bool (has_number log number (row_behind at at Same))) [
    | inl here ↦ ap told (row-here log number at at Same rows here) ∙ of_same at
    | inr later ↦ ap told (row-later log number at at Same rows later) ∙ in-front log number (at + 1) count rows same (omega (arith, before))
  ]
  in-front log number at (suc count) (Changed ∷ rows) same before = absurd (cc same)
  in-front log number at (suc count) (OnlyLeft ∷ rows) same before = absurd (cc same)
  in-front log number at (suc count) (OnlyRight ∷ rows) same before = absurd (cc same)

-- no mark stands where no item has changed
pub no-marks : (log : PairLog) → marks_of log None None ≡ None
no-marks A = refl
no-marks B = refl

-- an item that stands behind rows that are the same is looked for from there on
pub from-same : (log : PairLog) (number at count : ℕ) (rows : List Row) (to : ℕ) → to ≡ at + count → changes_within count rows ≡ false → to < number
    → row_from log number at at rows ≡ row_from log number to to (drop count rows)
from-same log number at zero rows to is same behind = let there : at ≡ to = omega (arith, is) in (λ i. row_from log number (there i) (there i) rows)
from-same log number at (suc count) [] to is same behind = refl
from-same log number at (suc count) (Same ∷ rows) to is same behind =
    row-later log number at at Same rows (not-there log number at at Same (λ next. omega (arith, next, is, behind)) (λ next. omega (arith, next, is, behind)))
    ∙ from-same log number (at + 1) count rows to (omega (arith, is)) same behind
from-same log number at (suc count) (Changed ∷ rows) to is same behind = absurd (cc same)
from-same log number at (suc count) (OnlyLeft ∷ rows) to is same behind = absurd (cc same)
from-same log number at (suc count) (OnlyRight ∷ rows) to is same behind = absurd (cc same)

module _ (log : PairLog) (number : ℕ) (rows : List Row) where
  -- it is looked for from this place on, before which so many items of both stand
  abbrev pub IsFrom : ℕ → ℕ → ℕ → Type 0
  IsFrom left right k = row_with log number rows ≡ row_from log number left right (drop k rows)

  module _ (left right k : ℕ) (d : Row) (below : k < length rows) (so_far : IsFrom left right k) where
    -- and is the one there
    pub found-here : has_number log number (row_behind left right (get_or rows k d)) ≡ true → Some (row_behind left right (get_or rows k d)) ≡ row_with log number rows
    found-here is =
        sym (so_far ∙ ap (row_from log number left right) (drop_more rows k d below) ∙ row-here log number left right (get_or rows k d) (drop (k + 1) rows) is)

    -- or is not
    pub found-later : has_number log number (row_behind left right (get_or rows k d)) ≡ false → (next_left next_right : ℕ)
        → next_left ≡ left + left_in (get_or rows k d) → next_right ≡ right + right_in (get_or rows k d) → IsFrom next_left next_right (k + 1)
    found-later is next_left next_right left_is right_is =
        so_far ∙ ap (row_from log number left right) (drop_more rows k d below) ∙ row-later log number left right (get_or rows k d) (drop (k + 1) rows) is
        ∙ (λ i. row_from log number (sym left_is i) (sym right_is i) (drop (k + 1) rows))

  -- none has it
  pub found-none : (left right k : ℕ) → length rows ≤ k → IsFrom left right k → ◌≡◌ {A = Option RowPlace} None (row_with log number rows)
  found-none left right k past so_far = sym (so_far ∙ ap (row_from log number left right) (drop_all k rows past))
