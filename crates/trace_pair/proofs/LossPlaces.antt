-- The losses of an item are those that its rows tell: from the row with which it begins up to that of the next item.
use Rattle.std.proofs.Common.{◌≡◌, ℕ, zero, suc, ◌+◌, ◌-◌, ◌≤◌, ◌<◌, Bool, true, false, List, []}
use Rattle.std.proofs.Common.{◌∷◌, ◌++◌, length, take, drop, ap, sym, ◌∙◌, arith, refl, inl, inr}
use Rattle.std.specs.Prelude.{◌==◌, ◌&&◌, if◌then◌else◌}
use Rattle.std.specs.List.{filter}
use Rattle.std.proofs.lemmas.Bool.{cases_Bool, eq-eqb, ne_eqb}
use Rattle.std.proofs.lemmas.List.{length-append}
use Rattle.trace_report.specs.Items.{begins, rows_before}
use Rattle.trace_report.specs.Rows.{RowValue, message, no_answer, dropped, ended, unfinished}
use Rattle.trace_pair.specs.Losses.{count_begun, first_row, is_loss, losses_behind, losses_from, losses_in_front, losses_of}
use Rattle.trace_pair.specs.proving.Losing.{lost}
use Rattle.pair_words.proofs.Promises.{cut-joined, cut-none}
use Rattle.trace_pair.proofs.BegunRows.{begins-first, begins-next, begins-none, before-up, before-all}

-- a row with which an item begins tells no loss
no-loss : (row : RowValue) → begins row ≡ true → is_loss row ≡ false
no-loss (message is d place bytes) begun = refl
no-loss (no_answer number silence) begun = refl
no-loss (dropped place d linked why) begun = absurd (cc begun)
no-loss (ended place end) begun = absurd (cc begun)
no-loss (unfinished d line len) begun = absurd (cc begun)

one-begun : (row : RowValue) → begins row ≡ true → count_begun row ≡ 1
one-begun row begun = ap (λ (b : Bool). if b then 1 else 0) begun

none-begun : (row : RowValue) → begins row ≡ false → count_begun row ≡ 0
none-begun row begun = ap (λ (b : Bool). if b then 1 else 0) begun

-- a row is put in front of others where it tells a loss, and that is the item's
abbrev pub with_row : Bool → Bool → RowValue → List RowValue → List RowValue
with_row loss own row rest = if loss && own then row ∷ rest else rest

no-loss-with : (loss own : Bool) (row : RowValue) (rest : List RowValue) → loss ≡ false → with_row loss own row rest ≡ rest
no-loss-with true own row rest is = absurd (cc is)
no-loss-with false own row rest is = refl

other-with : (loss own : Bool) (row : RowValue) (rest : List RowValue) → own ≡ false → with_row loss own row rest ≡ rest
other-with true true row rest is = absurd (cc is)
other-with true false row rest is = refl
other-with false own row rest is = refl

own-with : (loss own : Bool) (row : RowValue) (rest : List RowValue) → own ≡ true → with_row loss own row rest ≡ (if loss then row ∷ rest else rest)
own-with true true row rest is = refl
own-with true false row rest is = absurd (cc is)
own-with false own row rest is = refl

-- The rows of an item.

-- the rows from one place up to another
abbrev pub piece : ℕ → ℕ → List RowValue → List RowValue
piece from to rows = take (to - from) (drop from rows)

module _ (row : RowValue) (rows : List RowValue) (from to : ℕ) where
  pub piece-behind : piece (suc from) (suc to) (row ∷ rows) ≡ piece from to rows
  piece-behind = let same : suc to - suc from ≡ to - from = omega arith in ap (λ (n : ℕ). take n (drop from rows)) same

piece-with : (row : RowValue) (rows : List RowValue) (to : ℕ) → piece 0 (suc to) (row ∷ rows) ≡ row ∷ piece 0 to rows
piece-with row rows to = let more : suc to - 0 ≡ suc (to - 0) = omega arith in ap (λ (n : ℕ). take n (row ∷ rows)) more

-- Behind the items before.

none-behind : (begun item : ℕ) (rows : List RowValue) → item + 1 < begun → losses_behind begun item rows ≡ []
none-behind begun item [] past = refl
none-behind begun item (row ∷ rows) past =
    let other : (begun - 1 == item) ≡ false = ne_eqb (begun - 1) item (λ same. omega arith) in
    other-with (is_loss row) (begun - 1 == item) row (losses_behind (begun + count_begun row) item rows) other
    ∙ none-behind (begun + count_begun row) item rows (omega (arith, past))

-- within the item
inside : (begun item : ℕ) (rows : List RowValue) → begun ≡ item + 1 → losses_behind begun item rows ≡ lost (piece 0 (rows_before 0 rows) rows)
inside begun item [] is = refl
inside begun item (row ∷ rows) is =
    let rest = losses_behind (begun + count_begun row) item rows in
    elim (cases_Bool (begins row)) [
      | inl next ↦
          no-loss-with (is_loss row) (begun - 1 == item) row rest (no-loss row next)
          ∙ none-behind (begun + count_begun row) item rows (omega (arith, is, one-begun row next))
          ∙ sym (ap (λ (n : ℕ). lost (piece 0 n (row ∷ rows))) (begins-first row rows next))
      | inr none ↦
          let own : (begun - 1 == item) ≡ true = eq-eqb (begun - 1) item (omega (arith, is)) in
          own-with (is_loss row) (begun - 1 == item) row rest own
          ∙ ap (λ (l : List RowValue). if is_loss row then row ∷ l else l) (inside (begun + count_begun row) item rows (omega (arith, is, none-begun row none)))
          ∙ sym (ap (λ (n : ℕ). lost (piece 0 n (row ∷ rows))) (begins-none row rows 0 none) ∙ ap lost (piece-with row rows (rows_before 0 rows)))
    ]

-- before the first item, or within that
inside-first : (rows : List RowValue) → losses_behind 0 0 rows ≡ lost (piece 0 (rows_before 1 rows) rows)
inside-first [] = refl
inside-first (row ∷ rows) =
    let rest = losses_behind (0 + count_begun row) 0 rows in
    elim (cases_Bool (begins row)) [
      | inl next ↦
          no-loss-with (is_loss row) (0 - 1 == 0) row rest (no-loss row next)
          ∙ inside (0 + count_begun row) 0 rows (omega (arith, one-begun row next))
          ∙ sym (ap (λ (n : ℕ). lost (piece 0 n (row ∷ rows))) (begins-next row rows 0 next) ∙ ap lost (piece-with row rows (rows_before 0 rows))
          ∙ ap (λ (loss : Bool). if loss then row ∷ lost (piece 0 (rows_before 0 rows) rows) else lost (piece 0 (rows_before 0 rows) rows)) (no-loss row next))
      | inr none ↦
          let still : 0 + count_begun row ≡ 0 = omega (arith, none-begun row none) in
          own-with (is_loss row) (0 - 1 == 0) row rest refl
          ∙ ap (λ (l : List RowValue). if is_loss row then row ∷ l else l) (ap (λ (n : ℕ). losses_behind n 0 rows) still ∙ inside-first rows)
          ∙ sym (ap (λ (n : ℕ). lost (piece 0 n (row ∷ rows))) (begins-none row rows 1 none) ∙ ap lost (piece-with row rows (rows_before 1 rows)))
    ]

-- before the item
before : (begun item more : ℕ) (rows : List RowValue) → begun + more ≡ item → 0 < item
    → losses_behind begun item rows ≡ lost (piece (rows_before more rows) (rows_before (more + 1) rows) rows)
before begun item more [] is some = refl
before begun item more (row ∷ rows) is some =
    elim (cases_Bool (begins row)) [
      | inl next ↦ no-loss-with (is_loss row) (begun - 1 == item) row (losses_behind (begun + count_begun row) item rows) (no-loss row next)
          ∙ of-begun more (λ n e. before (begun + count_begun row) item n rows e some) is next
      | inr none ↦
          let other : (begun - 1 == item) ≡ false = ne_eqb (begun - 1) item (λ same. omega arith) in
          other-with (is_loss row) (begun - 1 == item) row (losses_behind (begun + count_begun row) item rows) other
          ∙ before (begun + count_begun row) item more rows (omega (arith, is, none-begun row none)) some
          ∙ sym (ap lost ((λ i. piece (begins-none row rows more none i) (begins-none row rows (more + 1) none i) (row ∷ rows))
          ∙ piece-behind row rows (rows_before more rows) (rows_before (more + 1) rows)))
    ]
  where
    of-begun : (more : ℕ)
        → ((n : ℕ) → begun + count_begun row + n ≡ item → losses_behind (begun + count_begun row) item rows ≡ lost (piece (rows_before n rows) (rows_before (n + 1) rows) rows))
        → begun + more ≡ item → begins row ≡ true
        → losses_behind (begun + count_begun row) item rows ≡ lost (piece (rows_before more (row ∷ rows)) (rows_before (more + 1) (row ∷ rows)) (row ∷ rows))
    of-begun zero rest is next =
        inside (begun + count_begun row) item rows (omega (arith, is, one-begun row next))
        ∙ sym (ap lost ((λ i. piece (begins-first row rows next i) (begins-next row rows 0 next i) (row ∷ rows)) ∙ piece-with row rows (rows_before 0 rows))
        ∙ ap (λ (loss : Bool). if loss then row ∷ lost (piece 0 (rows_before 0 rows) rows) else lost (piece 0 (rows_before 0 rows) rows)) (no-loss row next))
    of-begun (suc n) rest is next =
        let up : suc n ≡ n + 1 = omega arith in
        let from = ap (λ (m : ℕ). rows_before m (row ∷ rows)) up ∙ begins-next row rows n next in
        let to = begins-next row rows (suc n) next ∙ ap (λ (m : ℕ). suc (rows_before m rows)) up in
        rest n (omega (arith, is, one-begun row next))
        ∙ sym (ap lost ((λ i. piece (from i) (to i) (row ∷ rows)) ∙ piece-behind row rows (rows_before n rows) (rows_before (n + 1) rows)))

-- Of one item, and of several.

pub first-some : (item : ℕ) (rows : List RowValue) → 0 < item → first_row item rows ≡ rows_before item rows
first-some item rows some = ap (λ (b : Bool). if b then 0 else rows_before item rows) (ne_eqb item 0 (λ same. omega arith))

pub first-earlier : (item : ℕ) (rows : List RowValue) → first_row item rows ≤ rows_before item rows
first-earlier zero rows = omega arith
first-earlier (suc n) rows = omega (arith, first-some (suc n) rows (omega arith))

pub losses-are-lost : (rows : List RowValue) (item : ℕ) → losses_of rows item ≡ lost (piece (first_row item rows) (first_row (item + 1) rows) rows)
losses-are-lost rows zero = inside-first rows ∙ sym (ap (λ (n : ℕ). lost (piece 0 n rows)) (first-some 1 rows (omega arith)))
losses-are-lost rows (suc n) =
    before 0 (suc n) (suc n) rows (omega arith) (omega arith)
    ∙ sym (ap lost (λ i. piece (first-some (suc n) rows (omega arith) i) (first-some (suc n + 1) rows (omega arith) i) rows))

pub lost-joined : (xs ys : List RowValue) → lost (xs ++ ys) ≡ lost xs ++ lost ys
lost-joined [] ys = refl
lost-joined (row ∷ xs) ys = by (is_loss row) (lost-joined xs ys)
  where
    by : (loss : Bool) → lost (xs ++ ys) ≡ lost xs ++ lost ys
        → (if loss then row ∷ lost (xs ++ ys) else lost (xs ++ ys)) ≡ (if loss then row ∷ lost xs else lost xs) ++ lost ys
    by true rest = ap (λ (l : List RowValue). row ∷ l) rest
    by false rest = rest

pub first-up : (item : ℕ) (rows : List RowValue) → first_row item rows ≤ first_row (item + 1) rows
first-up zero rows = omega arith
first-up (suc n) rows =
    let one = first-some (suc n) rows (omega arith) in
    let next = first-some (suc n + 1) rows (omega arith) in
    omega (arith, one, next, before-up (suc n) rows)

pub first-later : (item more : ℕ) (rows : List RowValue) → first_row item rows ≤ first_row (item + more) rows
first-later item zero rows = let same : item + 0 ≡ item = omega arith in omega (arith, ap (λ (n : ℕ). first_row n rows) same)
first-later item (suc more) rows =
    let same : item + suc more ≡ item + more + 1 = omega arith in
    omega (arith, ap (λ (n : ℕ). first_row n rows) same, first-up (item + more) rows, first-later item more rows)

pub losses-counted : (rows : List RowValue) (item count : ℕ)
    → losses_from rows item count ≡ length (lost (piece (first_row item rows) (first_row (item + count) rows) rows))
losses-counted rows item zero =
    let same : item + 0 ≡ item = omega arith in
    sym (ap (λ (n : ℕ). length (lost (piece (first_row item rows) (first_row n rows) rows))) same
    ∙ ap (λ (l : List RowValue). length (lost l)) (cut-none rows (first_row item rows) (first_row item rows) (omega arith)))
losses-counted rows item (suc more) =
    let same : item + suc more ≡ item + 1 + more = omega arith in
    let a = first_row item rows in
    let b = first_row (item + 1) rows in
    let d = first_row (item + 1 + more) rows in
    let one = ap (λ (l : List RowValue). length l) (losses-are-lost rows item) in
    let others = losses-counted rows (item + 1) more in
    let joined = ap (λ (l : List RowValue). length (lost l)) (cut-joined rows a b d (first-up item rows) (first-later (item + 1) more rows)) in
    let parted = ap (λ (l : List RowValue). length l) (lost-joined (piece a b rows) (piece b d rows)) in
    let sum = length-append (lost (piece a b rows)) (lost (piece b d rows)) in
    let whole = ap (λ (n : ℕ). length (lost (piece a (first_row n rows) rows))) same in
    omega (arith, one, others, joined, parted, sum, whole)

-- what is lost is what passes the test
pub lost-passes : (rows : List RowValue) → lost rows ≡ filter is_loss rows
lost-passes [] = refl
lost-passes (row ∷ rows) = by (is_loss row) (lost-passes rows)
  where
    by : (loss : Bool) → lost rows ≡ filter is_loss rows → (if loss then row ∷ lost rows else lost rows) ≡ (if loss then row ∷ filter is_loss rows else filter is_loss rows)
    by true rest = ap (λ (l : List RowValue). row ∷ l) rest
    by false rest = rest

-- in front of an item stand the rows of the one before it, or those before the first one
pub in-front-counted : (rows : List RowValue) (item : ℕ)
    → losses_in_front rows item ≡ length (lost (piece (first_row (item - 1) rows) (rows_before item rows) rows))
in-front-counted rows zero =
    let span : rows_before 0 rows ≡ rows_before 0 rows - 0 = omega arith in
    ap (λ (l : List RowValue). length l) (sym (lost-passes (take (rows_before 0 rows) rows))) ∙ ap (λ (n : ℕ). length (lost (take n rows))) span
in-front-counted rows (suc n) =
    let next : n + 1 ≡ suc n = omega arith in
    let less : n ≡ suc n - 1 = omega arith in
    let end : first_row (n + 1) rows ≡ rows_before (suc n) rows = first-some (n + 1) rows (omega arith) ∙ ap (λ (m : ℕ). rows_before m rows) next in
    ap (λ (l : List RowValue). length l) (losses-are-lost rows n) ∙ (λ i. length (lost (piece (first_row (less i) rows) (end i) rows)))

-- all rows stand before those of an item that is not there
pub first-all : (item : ℕ) (rows : List RowValue) → length rows ≤ item → first_row item rows ≡ length rows
first-all zero rows past = omega (arith, past)
first-all (suc n) rows past = first-some (suc n) rows (omega arith) ∙ before-all (suc n) rows past
