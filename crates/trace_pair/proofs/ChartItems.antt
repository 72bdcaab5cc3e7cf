-- The rows of a chart are a piece of the log's, and have the row with which the item begins and its answer.
use Rattle.std.proofs.Common.{◌≡◌, ℕ, suc, ◌+◌, ◌-◌, ◌≤◌, ◌<◌, ◌⊎◌, true, false, List, [], ◌++◌}
use Rattle.std.proofs.Common.{length, take, drop, None, ap, sym, ◌∙◌, refl, arith, inl, inr}
use Rattle.std.specs.Prelude.{min, slice_get}
use Rattle.std.specs.List.{list_any}
use Rattle.std.proofs.lemmas.Bool.{cases_Bool, cases_lt}
use Rattle.std.proofs.lemmas.List.{drop-append-le, drop-drop, drop_all, length-drop, length-take, take-append-drop}
use Rattle.std.proofs.Math.Seq.{take-add}
use Rattle.isotp_receive.proofs.Promises.{get-drop}
use Rattle.trace_report.specs.Blocks.{begins_exchange}
use Rattle.trace_report.specs.Items.{answer_in, begins, rows_before}
use Rattle.trace_report.specs.Rows.{RowValue, ended}
use Rattle.trace_pair.specs.FirstDifference.{asks, before_request, chart_from, chart_to, last_request, most_before, rows_more}
use Rattle.trace_pair.specs.ChartLaws.{ChartHasTheItem}
use Rattle.trace_pair.specs.Losses.{first_row}
use Rattle.trace_pair.proofs.ChartPlaces.{first-to, from-first, get-past, last-below, to-within, up-by}
use Rattle.trace_pair.proofs.BegunRows.{before-next}
use Rattle.trace_pair.proofs.ChartRequests.{get-taken, last-asks, asks-within, asks-before, none-asks, none-answered, answered-before}

module _ (item : ℕ) (rows : List RowValue) where
  abbrev from : ℕ
  from = chart_from item rows

  abbrev to : ℕ
  to = chart_to item rows

  abbrev first : ℕ
  first = rows_before item rows

  abbrev count : ℕ
  count = min 40 (to - from)

  abbrev rest : List RowValue
  rest = drop from rows

  up : from ≤ first
  up = from-first item rows

  on : first ≤ to
  on = first-to item rows

  all : to ≤ length rows
  all = to-within item rows

  long : length (take from rows) ≡ from
  long = omega (arith, length-take from rows, up, on, all)

  left : length rest ≡ length rows - from
  left = length-drop from rows

  near : first ≤ from + 8
  near = omega arith

  first-before : first < length rows → first < to
  first-before is =
      let third : item + 1 + 1 ≡ item + 2 = omega arith in
      omega (arith, before-next item rows is, up-by (item + 1) 1 rows, ap (λ (n : ℕ). rows_before n rows) third)

  whole : rows ≡ take from rows ++ (take count rest ++ drop count rest)
  whole = sym (ap (λ (l : List RowValue). take from rows ++ l) (take-append-drop count rest) ∙ take-append-drop from rows)

  -- how far the item's row stands behind that with which the chart begins
  abbrev far : ℕ
  far = first - length (take from rows)

  far-is : first ≡ from + far
  far-is = omega (arith, long, up)

  row-there : slice_get (take count rest) far ≡ slice_get rows first
  row-there = elim (cases_lt first (length rows)) [
    | inl is ↦
        let low : far < count = omega (arith, far-is, near, first-before is) in
        get-taken count rest far low ∙ sym (get-drop from rows far first far-is)
    | inr past ↦
        let none : length (take count rest) ≤ far = omega (arith, length-take count rest, left, far-is, past) in
        get-past (take count rest) far none ∙ sym (get-past rows first past)
  ]

  answer-there : answer_in (drop (suc far) (take count rest ++ take (rows_more item rows) (drop count rest))) ≡ answer_in (drop (suc first) rows)
  answer-there =
      let many : count + rows_more item rows ≡ to - from = omega arith in
      let joined = sym (take-add count (rows_more item rows) rest) ∙ ap (λ (n : ℕ). take n rest) many in
      ap (λ (l : List RowValue). answer_in (drop (suc far) l)) joined ∙ elim (cases_lt first (length rows)) [
        | inl is ↦ there is
        | inr past ↦
            let few : length (take (to - from) rest) ≤ suc far = omega (arith, length-take (to - from) rest, left, far-is, past) in
            let none : length rows ≤ suc first = omega (arith, past) in
            ap answer_in (drop_all (suc far) (take (to - from) rest) few) ∙ sym (ap answer_in (drop_all (suc first) rows none))
      ]
    where
      there : first < length rows → answer_in (drop (suc far) (take (to - from) rest)) ≡ answer_in (drop (suc first) rows)
      there is =
          let span = take (to - from) rest in
          let behind = drop (to - from) rest in
          let place : from + suc far ≡ suc first = omega (arith, far-is) in
          let end : from + (to - from) ≡ to = omega (arith, up, on) in
          let within : suc far ≤ length span = omega (arith, length-take (to - from) rest, left, far-is, first-before is, all, up) in
          let second = rows_before (item + 2) rows in
          let ended : behind ≡ drop (before_request (drop second rows)) (drop second rows) =
          drop-drop (to - from) from rows ∙ ap (λ (n : ℕ). drop n rows) end ∙ sym (drop-drop (before_request (drop second rows)) second rows) in
          let none : answer_in behind ≡ None = ap answer_in ended ∙ none-answered (drop second rows) in
          let parted : drop (suc first) rows ≡ drop (suc far) span ++ behind =
          sym (drop-drop (suc far) from rows ∙ ap (λ (n : ℕ). drop n rows) place)
          ∙ ap (drop (suc far)) (sym (take-append-drop (to - from) rest)) ∙ drop-append-le (suc far) span behind within in
          sym (ap answer_in parted ∙ answered-before (drop (suc far) span) behind none)

  begins-there : (take from rows ≡ [])
      ⊎ (((asks (slice_get (take count rest) 0) ≡ true) × (length (take from rows) ≤ first_row (item - 1) rows)) ⊎ (length (take from rows) + most_before ≡ first))
  begins-there = elim (cases_lt 0 from) [
    | inr none ↦ let nothing : from ≡ 0 = omega (arith, none) in inl (ap (λ (n : ℕ). take n rows) nothing)
    | inl some ↦ elim (cases_lt (first - 8) (last_request (suc (first_row (item - 1) rows)) rows)) [
      | inr cut ↦ inr (inr (omega (arith, long, some, cut)))
      | inl asked ↦ inr (inl (of-request (omega (arith, asked)) some, omega (arith, long, asked, last-below (first_row (item - 1) rows) rows)))
    ]
  ]
    where
      of-request : from ≡ last_request (suc (first_row (item - 1) rows)) rows → 0 < from → asks (slice_get (take count rest) 0) ≡ true
      of-request is some =
          let here : asks (slice_get rows from) ≡ true =
          ap (λ (n : ℕ). asks (slice_get rows n)) is ∙ last-asks (suc (first_row (item - 1) rows)) rows (omega (arith, is, some)) in
          let within = asks-within rows from here in
          let low : 0 < count = elim (cases_lt first (length rows)) [
            | inl before ↦ omega (arith, up, first-before before)
            | inr past ↦ omega (arith, within, past, on)
          ] in
          let same : from ≡ from + 0 = omega arith in
          ap asks (get-taken count rest 0 low ∙ sym (get-drop from rows 0 from same)) ∙ here

  -- around the first item, or the second, it begins with the first row, or as far before the item as a chart goes
  begins-whole : item ≤ 1 → ((take from rows ≡ []) ⊎ (length (take from rows) + most_before ≡ first))
  begins-whole low =
      let none : item - 1 ≡ 0 = omega (arith, low) in
      let start : first_row (item - 1) rows ≡ 0 = ap (λ (n : ℕ). first_row n rows) none in
      let asked = last-below (first_row (item - 1) rows) rows in
      elim (cases_lt 8 first) [
        | inl far ↦ inr (omega (arith, long, start, asked, far))
        | inr close ↦ let nothing : from ≡ 0 = omega (arith, start, asked, close) in inl (ap (λ (n : ℕ). take n rows) nothing)
      ]

  -- how far what belongs to the item before begins behind it
  abbrev nearer : ℕ
  nearer = first_row (item - 1) rows - length (take from rows)

  none-between : list_any begins_exchange (take nearer (drop 1 (take count rest))) ≡ false
  none-between = none-asks (drop 1 (take count rest)) nearer each
    where
      of-log : (at : ℕ) → at < nearer → asks (slice_get rows (from + suc at)) ≡ false
      of-log at low = elim (cases_Bool (asks (slice_get rows (from + suc at)))) [
        | inr none ↦ none
        | inl there ↦ absurd (omega (arith, long, low, asks-before (suc (first_row (item - 1) rows)) (from + suc at) rows there (omega (arith, long, low))))
      ]

      of-chart : (at : ℕ) → at < nearer → asks (slice_get (take count rest) (suc at)) ≡ false
      of-chart at low = elim (cases_lt (suc at) count) [
        | inl within ↦ ap asks (get-taken count rest (suc at) within ∙ sym (get-drop from rows (suc at) (from + suc at) refl)) ∙ of-log at low
        | inr past ↦ ap asks (get-past (take count rest) (suc at) (omega (arith, length-take count rest, past)))
      ]

      each : (at : ℕ) → at < nearer → asks (slice_get (drop 1 (take count rest)) at) ≡ false
      each at low =
          let next : suc at ≡ 1 + at = omega arith in
          ap asks (sym (get-drop 1 (take count rest) at (suc at) next)) ∙ of-chart at low

  cut-there : (rows_more item rows ≡ 0) ⊎ (length (take count rest) ≡ 40)
  cut-there = elim (cases_lt 40 (to - from)) [
    | inl more ↦ inr (omega (arith, length-take count rest, left, more, all))
    | inr none ↦ inl (omega (arith, none))
  ]

  few-there : rows_more item rows ≤ length (drop count rest)
  few-there = omega (arith, length-drop count rest, left, all, up, on)

pub has-the-item : ChartHasTheItem
has-the-item item rows = (
  take (from item rows) rows,
  drop (count item rows) (rest item rows),
  record {
    piece = whole item rows;
    begins = begins-there item rows;
    last = none-between item rows;
    lost = begins-whole item rows;
    before = omega (arith, long item rows, up item rows);
    near = omega (arith, long item rows, near item rows);
    row = row-there item rows;
    answer = answer-there item rows;
    cut = cut-there item rows;
    few = few-there item rows;
  },
)
