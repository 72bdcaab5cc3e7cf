-- Each loss of a log stands with one of its items.
use Rattle.std.proofs.Common.{◌≡◌, ℕ, zero, suc, ◌+◌, ◌-◌, ◌≤◌, ◌<◌, Bool, true, false, List, [], ◌∷◌, ◌++◌, length, ap, sym, ◌∙◌, arith, refl, inl, inr}
use Rattle.std.specs.Prelude.{max, Some, None, if◌then◌else◌}
use Rattle.std.specs.List.{flat_map, range_with_len}
use Rattle.std.proofs.lemmas.Bool.{cases_Bool}
use Rattle.std.proofs.lemmas.List.{take_all}
use Rattle.trace_report.specs.Roles.{begins_item}
use Rattle.trace_report.specs.Items.{RowMessageValue, begins, items_by, items_in, rows_before}
use Rattle.trace_report.specs.Rows.{RowValue, message, no_answer, dropped, ended, unfinished}
use Rattle.trace_pair.specs.LossLaws.{EachLossStandsOnce}
use Rattle.trace_pair.specs.Losses.{first_row, losses_of}
use Rattle.trace_pair.specs.proving.Losing.{lost}
use Rattle.trace_pair.proofs.BegunRows.{begins-next, begins-none}
use Rattle.trace_pair.proofs.LossPlaces.{first-later, first-some, first-up, losses-are-lost, lost-joined, lost-passes, piece}
use Rattle.pair_words.proofs.Promises.{cut-joined, cut-none}

-- the losses of so many items, from this one on
losses-joined : (rows : List RowValue) (item count : ℕ)
    → flat_map (losses_of rows) (range_with_len item count) ≡ lost (piece (first_row item rows) (first_row (item + count) rows) rows)
losses-joined rows item zero =
    let same : item + 0 ≡ item = omega arith in
    sym (ap (λ (n : ℕ). lost (piece (first_row item rows) (first_row n rows) rows)) same
    ∙ ap lost (cut-none rows (first_row item rows) (first_row item rows) (omega arith)))
losses-joined rows item (suc more) =
    let same : item + suc more ≡ item + 1 + more = omega arith in
    let a = first_row item rows in
    let b = first_row (item + 1) rows in
    let d = first_row (item + 1 + more) rows in
    ap (λ (l : List RowValue). l ++ flat_map (losses_of rows) (range_with_len (item + 1) more)) (losses-are-lost rows item)
    ∙ ap (λ (l : List RowValue). lost (piece a b rows) ++ l) (losses-joined rows (item + 1) more)
    ∙ sym (lost-joined (piece a b rows) (piece b d rows))
    ∙ sym (ap lost (cut-joined rows a b d (first-up item rows) (first-later (item + 1) more rows)))
    ∙ sym (ap (λ (n : ℕ). lost (piece a (first_row n rows) rows)) same)

-- how many items begin with a row and those behind it
items-more : (row : RowValue) (rows : List RowValue) → length (items_in (row ∷ rows)) ≡ (if begins row then suc (length (items_in rows)) else length (items_in rows))
items-more (message is d place bytes) rows = by (record { role = is; dir = d; place = place; bytes = bytes }) (begins_item is)
  where
    by : (sent : RowMessageValue) (begun : Bool) → length (items_by (if begun then Some sent else None) rows (items_in rows)) ≡ (if begun then suc (length (items_in rows)) else length (items_in rows))
    by sent true = refl
    by sent false = refl
items-more (no_answer number silence) rows = refl
items-more (dropped place d linked why) rows = refl
items-more (ended place end) rows = refl
items-more (unfinished d line len) rows = refl

-- all rows stand before an item that is not there
behind-items : (n : ℕ) (rows : List RowValue) → length (items_in rows) ≤ n → rows_before n rows ≡ length rows
behind-items n [] few = refl
behind-items n (row ∷ rows) few = elim (cases_Bool (begins row)) [
  | inl begun ↦
      of-begun n (λ m. behind-items m rows) begun
      (omega (arith, few, items-more row rows ∙ ap (λ (b : Bool). if b then suc (length (items_in rows)) else length (items_in rows)) begun))
  | inr none ↦
      let same = items-more row rows ∙ ap (λ (b : Bool). if b then suc (length (items_in rows)) else length (items_in rows)) none in
      omega (arith, begins-none row rows n none, behind-items n rows (omega (arith, few, same)))
]
  where
    of-begun : (n : ℕ) → ((m : ℕ) → length (items_in rows) ≤ m → rows_before m rows ≡ length rows) → begins row ≡ true → suc (length (items_in rows)) ≤ n
        → rows_before n (row ∷ rows) ≡ suc (length rows)
    of-begun zero rest begun some = absurd (omega (arith, some))
    of-begun (suc m) rest begun some =
        let next : suc m ≡ m + 1 = omega arith in
        let is = ap (λ (k : ℕ). rows_before k (row ∷ rows)) next ∙ begins-next row rows m begun in
        omega (arith, is, rest m (omega (arith, some)))

pub each_loss_stands_once : EachLossStandsOnce
each_loss_stands_once rows =
    let count = max 1 (length (items_in rows)) in
    let all : length (items_in rows) ≤ count = omega arith in
    let some : 0 < count = omega arith in
    let same : 0 + count ≡ count = omega arith in
    let end = ap (λ (n : ℕ). first_row n rows) same ∙ first-some count rows some ∙ behind-items count rows all in
    losses-joined rows 0 count ∙ ap (λ (n : ℕ). lost (piece 0 n rows)) end ∙ ap lost (take_all (length rows - 0) rows (omega arith)) ∙ lost-passes rows
