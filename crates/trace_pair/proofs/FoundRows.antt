-- The row that has an item is found by its number.
use Rattle.std.proofs.Common.{◌≡◌, ℕ, ◌+◌, ◌≤◌, ◌<◌, true, false, List, [], ◌∷◌, ◌++◌, length, Some, ap, ◌∙◌, arith, refl, inl, inr}
use Rattle.std.specs.Prelude.{◌==◌}
use Rattle.std.proofs.lemmas.Bool.{and_from, and_right, cases_lt, eq-eqb, ne_eqb}
use Rattle.shown_rows.specs.Rows.{left_count, left_in, right_count, right_in}
use Rattle.uds_exchange.specs.Meaning.{ItemValue}
use Rattle.uds_difference.specs.Rows.{AreBeside, rows_of}
use Rattle.uds_difference.specs.declared.row.Row.{Row}
use Rattle.uds_difference.specs.declared.row.Row.TheVariants.{Same, Changed, OnlyLeft, OnlyRight}
use Rattle.trace_pair.specs.declared.item_row.RowPlace.{RowPlace}
use Rattle.pair_words.specs.declared.log.PairLog.{PairLog}
use Rattle.pair_words.specs.declared.log.PairLog.TheVariants.{A, B}
use Rattle.trace_pair.specs.Counterparts.{has_number, row_behind, row_from}
use Rattle.trace_pair.specs.ItemRows.{place_in}
use Rattle.pair_words.specs.Logs.{has_item}
use Rattle.trace_pair.specs.RowLaws.{EachItemHasItsRow, IsFound}
use Rattle.uds_difference.proofs.Promises.{rows_are_beside}
use Rattle.trace_pair.proofs.RowsWith.{row-here, row-later}

-- One of some rows, where so many items of both logs stand before the first. It has the item of a place of a log.
record Stands (log : PairLog) (item first second : ℕ) (rows front later : List Row) (here : RowPlace) : Type 0 where
  row : rows ≡ front ++ (here.kind ∷ later)
  before_left : here.left ≡ first + left_count front
  before_right : here.right ≡ second + right_count front
  has : has_item log here.kind ≡ true
  own : place_in log here ≡ item

abbrev Found : PairLog → ℕ → ℕ → ℕ → List Row → Type 0
Found log item left right rows =
    (here : RowPlace) × (front : List Row) × (later : List Row) × (row_from log (item + 1) left right rows ≡ Some here) × Stands log item left right rows front later here

module _ (log : PairLog) (item left right : ℕ) (row : Row) (rows : List Row) where
  abbrev here : RowPlace
  here = row_behind left right row

  -- the first one has it
  found-here : has_item log row ≡ true → place_in log here ≡ item → Found log item left right (row ∷ rows)
  found-here has own =
      let same : place_in log here + 1 ≡ item + 1 = omega (arith, own) in (
        here,
        [],
        rows,
        row-here log (item + 1) left right row rows (and_from (has_item log row) (place_in log here + 1 == item + 1) has (eq-eqb (place_in log here + 1) (item + 1) same)),
        record { row = refl; before_left = omega arith; before_right = omega arith; has = has; own = own },
      )

  -- or one behind it
  found-later : has_number log (item + 1) here ≡ false → Found log item (left + left_in row) (right + right_in row) rows → Found log item left right (row ∷ rows)
  found-later not_here (there, front, later, is, stands) =
      let one = stands.before_left in
      let other = stands.before_right in (
        there,
        row ∷ front,
        later,
        row-later log (item + 1) left right row rows not_here ∙ is,
        record { row = ap (λ (l : List Row). row ∷ l) stands.row; before_left = omega (arith, one); before_right = omega (arith, other); has = stands.has; own = stands.own },
      )

  -- by the place of the item that the first one has
  found : has_item log row ≡ true → place_in log here ≤ item
      → (place_in log here < item → Found log item (left + left_in row) (right + right_in row) rows) → Found log item left right (row ∷ rows)
  found has up behind = elim (cases_lt (place_in log here) item) [
    | inl below ↦ found-later (and_right (has_item log row) (place_in log here + 1 == item + 1) (ne_eqb (place_in log here + 1) (item + 1) (λ is. omega (arith, is, below)))) (behind below)
    | inr over ↦ found-here has (omega (arith, up, over))
  ]

in-left : (item left right : ℕ) (rows : List Row) → left ≤ item → item < left + left_count rows → Found A item left right rows
in-left item left right [] up inside = absurd (omega (arith, up, inside))
in-left item left right (Same ∷ rows) up inside =
    found A item left right Same rows refl up (λ below. in-left item (left + 1) (right + 1) rows (omega (arith, below)) (omega (arith, inside)))
in-left item left right (Changed ∷ rows) up inside =
    found A item left right Changed rows refl up (λ below. in-left item (left + 1) (right + 1) rows (omega (arith, below)) (omega (arith, inside)))
in-left item left right (OnlyLeft ∷ rows) up inside =
    found A item left right OnlyLeft rows refl up (λ below. in-left item (left + 1) (right + 0) rows (omega (arith, below)) (omega (arith, inside)))
in-left item left right (OnlyRight ∷ rows) up inside =
    found-later A item left right OnlyRight rows refl (in-left item (left + 0) (right + 1) rows (omega (arith, up)) (omega (arith, inside)))

in-right : (item left right : ℕ) (rows : List Row) → right ≤ item → item < right + right_count rows → Found B item left right rows
in-right item left right [] up inside = absurd (omega (arith, up, inside))
in-right item left right (Same ∷ rows) up inside =
    found B item left right Same rows refl up (λ below. in-right item (left + 1) (right + 1) rows (omega (arith, below)) (omega (arith, inside)))
in-right item left right (Changed ∷ rows) up inside =
    found B item left right Changed rows refl up (λ below. in-right item (left + 1) (right + 1) rows (omega (arith, below)) (omega (arith, inside)))
in-right item left right (OnlyRight ∷ rows) up inside =
    found B item left right OnlyRight rows refl up (λ below. in-right item (left + 0) (right + 1) rows (omega (arith, below)) (omega (arith, inside)))
in-right item left right (OnlyLeft ∷ rows) up inside =
    found-later B item left right OnlyLeft rows refl (in-right item (left + 1) (right + 0) rows (omega (arith, up)) (omega (arith, inside)))

-- The rows have each item of both sessions.
record HaveAll (rows : List Row) (xs ys : List ItemValue) : Type 0 where
  left : left_count rows ≡ length xs
  right : right_count rows ≡ length ys

have-all : (rows : List Row) (xs ys : List ItemValue) → AreBeside rows xs ys → HaveAll rows xs ys
have-all [] [] [] beside = record { left = refl; right = refl }
have-all (Same ∷ rows) (x ∷ xs) (y ∷ ys) beside =
    let more = have-all rows xs ys beside.1 in
    let one = more.left in
    let other = more.right in
    record { left = omega (arith, one); right = omega (arith, other) }
have-all (Changed ∷ rows) (x ∷ xs) (y ∷ ys) beside =
    let more = have-all rows xs ys beside.2 in
    let one = more.left in
    let other = more.right in
    record { left = omega (arith, one); right = omega (arith, other) }
have-all (OnlyLeft ∷ rows) (x ∷ xs) ys beside =
    let more = have-all rows xs ys beside in
    let one = more.left in
    let other = more.right in
    record { left = omega (arith, one); right = omega (arith, other) }
have-all (OnlyRight ∷ rows) xs (y ∷ ys) beside =
    let more = have-all rows xs ys beside in
    let one = more.left in
    let other = more.right in
    record { left = omega (arith, one); right = omega (arith, other) }
have-all _ _ _ beside = absurd beside

from-first : (log : PairLog) (item : ℕ) (rows : List Row) → Found log item 0 0 rows → IsFound log item rows
from-first log item rows (here, front, later, is, stands) =
    let one = stands.before_left in
    let other = stands.before_right in
    (here, front, later, is, record { row = stands.row; before_left = omega (arith, one); before_right = omega (arith, other); has = stands.has; own = stands.own })

pub each_item_has_its_row : EachItemHasItsRow
each_item_has_its_row xs ys A item inside =
    let all = (have-all (rows_of xs ys) xs ys (rows_are_beside xs ys)).left in
    from-first A item (rows_of xs ys) (in-left item 0 0 (rows_of xs ys) (omega arith) (omega (arith, inside, all)))
each_item_has_its_row xs ys B item inside =
    let all = (have-all (rows_of xs ys) xs ys (rows_are_beside xs ys)).right in
    from-first B item (rows_of xs ys) (in-right item 0 0 (rows_of xs ys) (omega arith) (omega (arith, inside, all)))
