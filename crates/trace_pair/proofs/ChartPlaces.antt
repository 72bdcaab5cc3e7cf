-- Where the rows of a chart begin and end, as the code computes it.
use Rattle.std.proofs.Common.{◌≡◌, ℕ, zero, suc, ◌+◌, ◌-◌, ◌≤◌, ◌<◌, ◌^◌, Bool, true, false, List, []}
use Rattle.std.proofs.Common.{◌∷◌, length, take, drop, None, ap, sym, ◌∙◌, arith, refl, inl, inr}
use Rattle.std.specs.Prelude.{◌==◌, max, min, slice_get, if◌then◌else◌}
use Rattle.std.proofs.lemmas.Bool.{cases_Bool, cases_lt, eq-eqb, eqb-true, eqb-false, ne_eqb}
use Rattle.std.proofs.lemmas.List.{drop_all, length-drop}
use Rattle.trace_report.specs.Blocks.{begins_exchange}
use Rattle.trace_report.specs.Items.{rows_before}
use Rattle.trace_report.specs.Rows.{RowValue}
use Rattle.trace_pair.specs.FirstDifference.{asks, before_request, chart_from, chart_rows, chart_to, last_request, rows_more}
use Rattle.trace_pair.specs.Losses.{first_row}
use Rattle.trace_pair.proofs.BegunRows.{before-all, before-up, before-within}
use Rattle.trace_pair.proofs.LossPlaces.{first-earlier}

-- two numbers are equal where two others are
same-test : (a b x y : ℕ) → (a ≡ b → x ≡ y) → (x ≡ y → a ≡ b) → (a == b) ≡ (x == y)
same-test a b x y forth back = elim (cases_Bool (a == b)) [
  | inl same ↦ same ∙ sym (eq-eqb x y (forth (eqb-true a b same)))
  | inr other ↦ other ∙ sym (ne_eqb x y (λ same. eqb-false a b other (back same)))
]

pub up-by : (item more : ℕ) (rows : List RowValue) → rows_before item rows ≤ rows_before (item + more) rows
up-by item more rows = by more
  where
    by : (more : ℕ) → rows_before item rows ≤ rows_before (item + more) rows
    by zero = let same : item + 0 ≡ item = omega arith in omega (arith, ap (λ (n : ℕ). rows_before n rows) same)
    by (suc n) =
        let same : item + suc n ≡ item + n + 1 = omega arith in
        omega (arith, ap (λ (m : ℕ). rows_before m rows) same, before-up (item + n) rows, by n)

pub before-later : (item : ℕ) (rows : List RowValue) → rows_before (item - 1) rows ≤ rows_before item rows
before-later item rows = elim (cases_lt item 1) [
  | inl none ↦ let same : item - 1 ≡ item = omega (arith, none) in omega (arith, ap (λ (n : ℕ). rows_before n rows) same)
  | inr some ↦ let next : item - 1 + 1 ≡ item = omega (arith, some) in omega (arith, up-by (item - 1) 1 rows, ap (λ (n : ℕ). rows_before n rows) next)
]

-- what belongs to the item before begins no later than the item
pub belongs-before : (item : ℕ) (rows : List RowValue) → first_row (item - 1) rows ≤ rows_before item rows
belongs-before item rows = omega (arith, first-earlier (item - 1) rows, before-later item rows)

-- from its end on a list has nothing
pub get-past : {X : Type 0} (xs : List X) (at : ℕ) → length xs ≤ at → slice_get xs at ≡ None
get-past [] at past = refl
get-past (x ∷ xs) zero past = absurd (omega (arith, past))
get-past (x ∷ xs) (suc at) past = get-past xs at (omega (arith, past))

-- The last request among the first rows.

module _ (count : ℕ) (rows : List RowValue) where
  pub last-there : asks (slice_get rows count) ≡ true → last_request (suc count) rows ≡ count
  last-there there = ap (λ (b : Bool). if b then count else last_request count rows) there

  pub last-earlier : asks (slice_get rows count) ≡ false → last_request (suc count) rows ≡ last_request count rows
  last-earlier none = ap (λ (b : Bool). if b then count else last_request count rows) none

last-within : (count : ℕ) (rows : List RowValue) → last_request count rows ≤ count
last-within zero rows = omega arith
last-within (suc count) rows = elim (cases_Bool (asks (slice_get rows count))) [
  | inl there ↦ omega (arith, last-there count rows there)
  | inr none ↦ omega (arith, last-earlier count rows none, last-within count rows)
]

pub last-below : (count : ℕ) (rows : List RowValue) → last_request (suc count) rows ≤ count
last-below count rows = elim (cases_Bool (asks (slice_get rows count))) [
  | inl there ↦ omega (arith, last-there count rows there)
  | inr none ↦ omega (arith, last-earlier count rows none, last-within count rows)
]

module _ (item : ℕ) (rows : List RowValue) (low end : ℕ) where
  -- what is the last one so far, or where a chart begins at the earliest
  abbrev pub Latest : ℕ → ℕ → Type 0
  Latest at from = from ≡ max low (last_request (min at end) rows)

  pub latest-start : Latest low low
  latest-start = omega (arith, last-within (min low end) rows)

  module _ (at from : ℕ) (below : at < end) (up : low ≤ at) (latest : Latest at from) where
    so-far : min at end ≡ at
    so-far = omega (arith, below)

    one-more : min (at + 1) end ≡ suc at
    one-more = omega (arith, below)

    pub latest-there : asks (slice_get rows at) ≡ true → Latest (at + 1) at
    latest-there there = omega (arith, up, last-there at rows there, ap (λ (n : ℕ). last_request n rows) one-more)

    pub latest-earlier : asks (slice_get rows at) ≡ false → Latest (at + 1) from
    latest-earlier none =
        omega (arith, latest, last-earlier at rows none, ap (λ (n : ℕ). last_request n rows) one-more, ap (λ (n : ℕ). last_request n rows) so-far)

  pub latest-end : (at from : ℕ) → end ≤ at → low ≡ rows_before item rows - 8 → end ≡ min (suc (first_row (item - 1) rows)) (length rows) → Latest at from
      → from ≡ chart_from item rows
  latest-end at from past low_is end_is latest =
      let before = first_row (item - 1) rows in
      let over : min at end ≡ end = omega (arith, past) in
      let all : last_request end rows ≡ last_request (suc before) rows = elim (cases_lt before (length rows)) [
        | inl within ↦ let next : end ≡ suc before = omega (arith, end_is, within) in ap (λ (n : ℕ). last_request n rows) next
        | inr none ↦
            let same : end ≡ before = omega (arith, end_is, none, first-earlier (item - 1) rows, before-within (item - 1) rows) in
            ap (λ (n : ℕ). last_request n rows) same ∙ sym (last-earlier before rows (ap asks (get-past rows before none)))
      ] in
      omega (arith, latest, low_is, ap (λ (n : ℕ). last_request n rows) over, all)

-- The first request of rows.

module _ (row : RowValue) (rows : List RowValue) where
  pub first-asks : begins_exchange row ≡ true → before_request (row ∷ rows) ≡ 0
  first-asks there = ap (λ (b : Bool). if b then 0 else 1 + before_request rows) there

  pub first-later : begins_exchange row ≡ false → before_request (row ∷ rows) ≡ suc (before_request rows)
  first-later none =
      let one : 1 + before_request rows ≡ suc (before_request rows) = omega arith in
      ap (λ (b : Bool). if b then 0 else 1 + before_request rows) none ∙ one

request-within : (rows : List RowValue) → before_request rows ≤ length rows
request-within [] = omega arith
request-within (row ∷ rows) = elim (cases_Bool (begins_exchange row)) [
  | inl there ↦ omega (arith, first-asks row rows there)
  | inr none ↦ omega (arith, first-later row rows none, request-within rows)
]

request-here : (rows : List RowValue) (at : ℕ) → asks (slice_get rows at) ≡ true → before_request (drop at rows) ≡ 0
request-here [] at there = absurd (cc there)
request-here (row ∷ rows) zero there = first-asks row rows there
request-here (row ∷ rows) (suc at) there = request-here rows at there

request-later : (rows : List RowValue) (at : ℕ) → at < length rows → asks (slice_get rows at) ≡ false
    → before_request (drop at rows) ≡ suc (before_request (drop (suc at) rows))
request-later [] at below none = absurd (omega (arith, below))
request-later (row ∷ rows) zero below none = first-later row rows none
request-later (row ∷ rows) (suc at) below none = request-later rows at (omega (arith, below)) none

pub to-within : (item : ℕ) (rows : List RowValue) → chart_to item rows ≤ length rows
to-within item rows =
    let from = rows_before (item + 2) rows in
    omega (arith, before-within (item + 2) rows, request-within (drop from rows), length-drop from rows)

module _ (item : ℕ) (rows : List RowValue) where
  -- no request stands from there on up to a place
  pub record NoneTo (at : ℕ) : Type 0 where
    pub within : at ≤ length rows
    pub so_far : chart_to item rows ≡ at + before_request (drop at rows)

  module _ (at : ℕ) (left : NoneTo at) where
    pub none-to-here : asks (slice_get rows at) ≡ true → at ≡ chart_to item rows
    none-to-here there = omega (arith, left.so_far, request-here rows at there)

    pub none-to-next : at < length rows → asks (slice_get rows at) ≡ false → NoneTo (at + 1)
    none-to-next below none =
        let next : suc at ≡ at + 1 = omega arith in
        record {
          within = omega (arith, below);
          so_far = omega (arith, left.so_far, request-later rows at below none, ap (λ (n : ℕ). before_request (drop n rows)) next);
        }

    pub none-to-end : length rows ≤ at → length rows ≡ chart_to item rows
    none-to-end past = omega (arith, past, left.within, left.so_far, ap (λ (l : List RowValue). before_request l) (drop_all at rows past))

-- The piece between.

pub from-first : (item : ℕ) (rows : List RowValue) → chart_from item rows ≤ rows_before item rows
from-first item rows = omega (arith, last-below (first_row (item - 1) rows) rows, belongs-before item rows)

pub first-to : (item : ℕ) (rows : List RowValue) → rows_before item rows ≤ chart_to item rows
first-to item rows = omega (arith, up-by item 2 rows)

module _ (item : ℕ) (rows : List RowValue) (few : length rows < 2 ^ 63) where
  -- the second item behind it, where its number does not fit
  pub to-is : (place : ℕ) → place ≡ min (item + 2) (2 ^ 64 - 1) → NoneTo item rows (rows_before place rows)
  to-is place is =
      let own : rows_before place rows ≡ rows_before (item + 2) rows = elim (cases_lt (item + 2) (2 ^ 64)) [
        | inl fits ↦ let same : place ≡ item + 2 = omega (arith, is, fits) in ap (λ (n : ℕ). rows_before n rows) same
        | inr over ↦
            let past : length rows ≤ place = omega (arith, is, over, few) in
            let too : length rows ≤ item + 2 = omega (arith, over, few) in
            before-all place rows past ∙ sym (before-all (item + 2) rows too)
      ] in
      record {
        within = before-within place rows;
        so_far = (λ i. sym own i + before_request (drop (sym own i) rows));
      }

  -- where the rows end that it has
  module _ (from to end : ℕ) (from_is : from ≡ chart_from item rows) (to_is : to ≡ chart_to item rows) (end_is : end ≡ min to (min (from + 40) (2 ^ 64 - 1))) where
    within : to ≤ length rows
    within = omega (arith, to_is, to-within item rows)

    up : from ≤ to
    up = omega (arith, from_is, to_is, from-first item rows, first-to item rows)

    span : end - from ≡ min 40 (to - from)
    span = omega (arith, end_is, up, within, few)

    pub rows-are : take (end - from) (drop from rows) ≡ chart_rows item rows
    rows-are =
        let many : end - from ≡ min 40 (chart_to item rows - chart_from item rows) = omega (arith, span, from_is, to_is) in
        (λ i. take (many i) (drop (from_is i) rows))

    pub more-are : to - end ≡ rows_more item rows
    more-are = omega (arith, end_is, up, within, few, from_is, to_is)
