-- The items that are left, from the first on that begins at or behind a place of the rows.
use Rattle.std.proofs.Common.{◌≡◌, ℕ, zero, suc, ◌+◌, ◌-◌, ◌≤◌, ◌<◌, Bool, true, false, List, ap, sym, ◌∙◌, arith, inl, inr}
use Rattle.std.specs.Prelude.{nat_le, if◌then◌else◌}
use Rattle.std.proofs.lemmas.Bool.{cases_Bool, cases_lt, leb-false, leb-true}
use Rattle.trace_report.specs.Items.{rows_before}
use Rattle.trace_report.specs.Rows.{RowValue}
use Rattle.trace_pair.specs.FirstDifference.{chart_to, items_left}
use Rattle.trace_pair.specs.ChartLaws.{ChartCountsTheRun}
use Rattle.trace_pair.proofs.ChartPlaces.{up-by}

module _ (place : ℕ) (rows : List RowValue) where
  -- the first one begins there, or before
  first-left : (item more : ℕ) → nat_le place (rows_before item rows) ≡ true → items_left place item (suc more) rows ≡ suc more
  first-left item more there = ap (λ (is : Bool). if is then suc more else items_left place (item + 1) more rows) there

  first-later : (item more : ℕ) → nat_le place (rows_before item rows) ≡ false → items_left place item (suc more) rows ≡ items_left place (item + 1) more rows
  first-later item more none = ap (λ (is : Bool). if is then suc more else items_left place (item + 1) more rows) none

  module _ (at end : ℕ) where
    one-more : at < end → end - at ≡ suc (end - (at + 1))
    one-more below = omega (arith, below)

    pub left-here : at < end → nat_le place (rows_before at rows) ≡ true → items_left place at (end - at) rows ≡ end - at
    left-here below there =
        ap (λ (n : ℕ). items_left place at n rows) (one-more below) ∙ first-left at (end - (at + 1)) there ∙ sym (one-more below)

    pub left-later : at < end → nat_le place (rows_before at rows) ≡ false → items_left place at (end - at) rows ≡ items_left place (at + 1) (end - (at + 1)) rows
    left-later below none = ap (λ (n : ℕ). items_left place at n rows) (one-more below) ∙ first-later at (end - (at + 1)) none

    pub left-none : end ≤ at → items_left place at (end - at) rows ≡ 0
    left-none over =
        let none : end - at ≡ 0 = omega (arith, over) in
        ap (λ (n : ℕ). items_left place at n rows) none

  left-few : (item count : ℕ) → items_left place item count rows ≤ count
  left-few item zero = omega arith
  left-few item (suc more) = elim (cases_Bool (nat_le place (rows_before item rows))) [
    | inl there ↦ omega (arith, first-left item more there)
    | inr none ↦ omega (arith, first-later item more none, left-few (item + 1) more)
  ]

  rows-up : (item here : ℕ) → item ≤ here → rows_before item rows ≤ rows_before here rows
  rows-up item here low =
      let same : item + (here - item) ≡ here = omega (arith, low) in
      omega (arith, up-by item (here - item) rows, ap (λ (n : ℕ). rows_before n rows) same)

  -- the last ones of so many are left, and begin there or behind
  run-counted : (item count here : ℕ) → item ≤ here → here < item + count
      → (here + items_left place item count rows < item + count → rows_before here rows < place)
      × (item + count ≤ here + items_left place item count rows → place ≤ rows_before here rows)
  run-counted item zero here low high = absurd (omega (arith, low, high))
  run-counted item (suc more) here low high = elim (cases_Bool (nat_le place (rows_before item rows))) [
    | inl there ↦
        let all = first-left item more there in
        let from = leb-true place (rows_before item rows) there in
        let up = rows-up item here low in
        (λ few. absurd (omega (arith, few, all, low)), λ many. omega (arith, from, up))
    | inr none ↦
        let later = first-later item more none in
        let before = leb-false place (rows_before item rows) none in
        elim (cases_lt item here) [
          | inl behind ↦
              let rest = run-counted (item + 1) more here (omega (arith, behind)) (omega (arith, high)) in
              (λ few. rest.0 (omega (arith, few, later)), λ many. rest.1 (omega (arith, many, later)))
          | inr first ↦
              let same : here ≡ item = omega (arith, low, first) in
              let fewer = left-few (item + 1) more in
              (λ few. omega (arith, before, ap (λ (n : ℕ). rows_before n rows) same), λ many. absurd (omega (arith, many, later, fewer, same)))
        ]
  ]

pub chart_counts_the_run : ChartCountsTheRun
chart_counts_the_run item count rows here low high = run-counted (chart_to item rows) rows item count here low high
