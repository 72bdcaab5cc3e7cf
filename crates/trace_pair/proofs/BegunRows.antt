-- Where items begin among rows.
use Rattle.std.proofs.Common.{◌≡◌, ℕ, zero, suc, ◌+◌, ◌-◌, ◌≤◌, ◌<◌, Bool, true, false, List, [], ◌∷◌, length, ap, ◌∙◌, arith, refl, inl, inr}
use Rattle.std.specs.Prelude.{◌==◌, if◌then◌else◌}
use Rattle.std.proofs.lemmas.Bool.{cases_Bool, ne_eqb}
use Rattle.trace_report.specs.Items.{begins, rows_before}
use Rattle.trace_report.specs.Rows.{RowValue}

-- how many rows stand before an item, by whether one begins with the first row
module _ (row : RowValue) (rows : List RowValue) where
  pub begins-first : begins row ≡ true → rows_before 0 (row ∷ rows) ≡ 0
  begins-first begun = ap (λ (b : Bool). if b then 0 else 1 + rows_before 0 rows) begun

  pub begins-next : (item : ℕ) → begins row ≡ true → rows_before (item + 1) (row ∷ rows) ≡ suc (rows_before item rows)
  begins-next item begun =
      let later : (item + 1 == 0) ≡ false = ne_eqb (item + 1) 0 (λ same. omega arith) in
      let less : item + 1 - 1 ≡ item = omega arith in
      let one : 1 + rows_before item rows ≡ suc (rows_before item rows) = omega arith in
      ap (λ (b : Bool). if b then (if item + 1 == 0 then 0 else 1 + rows_before (item + 1 - 1) rows) else 1 + rows_before (item + 1) rows) begun
      ∙ ap (λ (b : Bool). if b then 0 else 1 + rows_before (item + 1 - 1) rows) later ∙ ap (λ (n : ℕ). 1 + rows_before n rows) less ∙ one

  pub begins-none : (item : ℕ) → begins row ≡ false → rows_before item (row ∷ rows) ≡ suc (rows_before item rows)
  begins-none item begun =
      let one : 1 + rows_before item rows ≡ suc (rows_before item rows) = omega arith in
      ap (λ (b : Bool). if b then (if item == 0 then 0 else 1 + rows_before (item - 1) rows) else 1 + rows_before item rows) begun ∙ one

-- no more rows stand before an item than there are
pub before-within : (item : ℕ) (rows : List RowValue) → rows_before item rows ≤ length rows
before-within item [] = omega arith
before-within item (row ∷ rows) = elim (cases_Bool (begins row)) [
  | inl begun ↦ of-begun item (λ n. before-within n rows) begun
  | inr none ↦ omega (arith, begins-none row rows item none, before-within item rows)
]
  where
    of-begun : (item : ℕ) → ((n : ℕ) → rows_before n rows ≤ length rows) → begins row ≡ true → rows_before item (row ∷ rows) ≤ suc (length rows)
    of-begun zero rest begun = omega (arith, begins-first row rows begun)
    of-begun (suc n) rest begun =
        let next : suc n ≡ n + 1 = omega arith in
        let is = ap (λ (m : ℕ). rows_before m (row ∷ rows)) next ∙ begins-next row rows n begun in
        omega (arith, is, rest n)

-- nor than before the next one
pub before-up : (item : ℕ) (rows : List RowValue) → rows_before item rows ≤ rows_before (item + 1) rows
before-up item [] = omega arith
before-up item (row ∷ rows) = elim (cases_Bool (begins row)) [
  | inl begun ↦ of-begun item (λ n. before-up n rows) begun
  | inr none ↦ omega (arith, begins-none row rows item none, begins-none row rows (item + 1) none, before-up item rows)
]
  where
    of-begun : (item : ℕ) → ((n : ℕ) → rows_before n rows ≤ rows_before (n + 1) rows) → begins row ≡ true → rows_before item (row ∷ rows) ≤ rows_before (item + 1) (row ∷ rows)
    of-begun zero rest begun = omega (arith, begins-first row rows begun)
    of-begun (suc n) rest begun =
        let next : suc n ≡ n + 1 = omega arith in
        let is = ap (λ (m : ℕ). rows_before m (row ∷ rows)) next ∙ begins-next row rows n begun in
        let later = begins-next row rows (suc n) begun in
        let again = ap (λ (m : ℕ). rows_before m rows) next in
        omega (arith, is, later, again, rest n)

-- all rows stand before an item that is not there
pub before-all : (item : ℕ) (rows : List RowValue) → length rows ≤ item → rows_before item rows ≡ length rows
before-all item [] past = refl
before-all item (row ∷ rows) past = elim (cases_Bool (begins row)) [
  | inl begun ↦ of-begun item (λ n. before-all n rows) past begun
  | inr none ↦ omega (arith, begins-none row rows item none, before-all item rows (omega (arith, past)))
]
  where
    of-begun : (item : ℕ) → ((n : ℕ) → length rows ≤ n → rows_before n rows ≡ length rows) → suc (length rows) ≤ item → begins row ≡ true
        → rows_before item (row ∷ rows) ≡ suc (length rows)
    of-begun zero rest past begun = absurd (omega (arith, past))
    of-begun (suc n) rest past begun =
        let next : suc n ≡ n + 1 = omega arith in
        let is = ap (λ (m : ℕ). rows_before m (row ∷ rows)) next ∙ begins-next row rows n begun in
        omega (arith, is, rest n (omega (arith, past)))

-- the row with which an item begins stands before that of the next one
pub before-next : (item : ℕ) (rows : List RowValue) → rows_before item rows < length rows → rows_before item rows < rows_before (item + 1) rows
before-next item [] there = absurd (omega (arith, there))
before-next item (row ∷ rows) there = elim (cases_Bool (begins row)) [
  | inl begun ↦ of-begun item (λ n. before-next n rows) there begun
  | inr none ↦
      let here = begins-none row rows item none in
      omega (arith, here, begins-none row rows (item + 1) none, before-next item rows (omega (arith, here, there)))
]
  where
    of-begun : (item : ℕ) → ((n : ℕ) → rows_before n rows < length rows → rows_before n rows < rows_before (n + 1) rows)
        → rows_before item (row ∷ rows) < suc (length rows) → begins row ≡ true → rows_before item (row ∷ rows) < rows_before (item + 1) (row ∷ rows)
    of-begun zero rest there begun =
        omega (arith, begins-first row rows begun, begins-next row rows 0 begun)
    of-begun (suc n) rest there begun =
        let next : suc n ≡ n + 1 = omega arith in
        let is = ap (λ (m : ℕ). rows_before m (row ∷ rows)) next ∙ begins-next row rows n begun in
        let later = begins-next row rows (suc n) begun in
        let again = ap (λ (m : ℕ). rows_before m rows) next in
        omega (arith, is, later, again, rest n (omega (arith, is, there)))
