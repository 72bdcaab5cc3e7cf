-- Whether a change is among the next rows, and how far a hunk goes, row by row.
use Rattle.std.proofs.Common.{◌≡◌, ℕ, zero, suc, ◌+◌, ◌*◌, ◌-◌, ◌≤◌, ◌<◌, min, true, false, List, [], ◌∷◌, length, take, drop, get_or, ap, sym, ◌∙◌, arith, refl, inl, inr}
use Rattle.std.proofs.lemmas.Bool.{cases_lt}
use Rattle.std.proofs.lemmas.List.{drop_all, drop_more, take_rest}
use Rattle.uds_difference.specs.declared.row.Row.{Row}
use Rattle.uds_difference.specs.declared.row.Row.TheVariants.{Same}
use Rattle.shown_rows.specs.Hunks.{rows_to_last_change}
use Rattle.shown_rows.specs.Rows.{changes_within, context, is_change}

-- a change among the first so many rows from a place on
pub not-yet : (count : ℕ) (rows : List Row) (k : ℕ) (row : Row) (later : List Row) → drop k rows ≡ row ∷ later → k < count → is_change row ≡ false
    → changes_within (count - k) (drop k rows) ≡ changes_within (count - (k + 1)) later
not-yet count rows k row later at below same =
    let next : count - k ≡ suc (count - (k + 1)) = omega arith in
    rw (at, next, same) refl

pub found : (count : ℕ) (rows : List Row) (k : ℕ) (row : Row) (later : List Row) → drop k rows ≡ row ∷ later → k < count → is_change row ≡ true
    → changes_within (count - k) (drop k rows) ≡ true
found count rows k row later at below change =
    let next : count - k ≡ suc (count - (k + 1)) = omega arith in
    rw (at, next, change) refl

pub none-within : (count : ℕ) → changes_within count [] ≡ false
none-within zero = refl
none-within (suc count) = refl

pub never : (count : ℕ) (rows : List Row) (k : ℕ) → min count (length rows) ≤ k → changes_within (count - k) (drop k rows) ≡ false
never count rows k over =
    elim (cases_lt k (length rows)) [
      | inr past ↦ ap (changes_within (count - k)) (drop_all k rows past) ∙ none-within (count - k)
      | inl before ↦
          let none : count - k ≡ 0 = omega arith in
          ap (λ (n : ℕ). changes_within n (drop k rows)) none
    ]

pub found-at : (count : ℕ) (rows : List Row) (k : ℕ) (d : Row) → k < min count (length rows) → is_change (get_or rows k d) ≡ true
    → changes_within (count - k) (drop k rows) ≡ true
found-at count rows k d below change =
    found count rows k (get_or rows k d) (drop (k + 1) rows) (drop_more rows k d (omega arith)) (omega arith) change

pub not-yet-at : (count : ℕ) (rows : List Row) (k : ℕ) (d : Row) → k < min count (length rows) → is_change (get_or rows k d) ≡ false
    → changes_within (count - k) (drop k rows) ≡ changes_within (count - (k + 1)) (drop (k + 1) rows)
not-yet-at count rows k d below same =
    not-yet count rows k (get_or rows k d) (drop (k + 1) rows) (drop_more rows k d (omega arith)) (omega arith) same

-- ---- up to the last change of a hunk, by what a slice has from a place on

last-first : (row : Row) (later : List Row) → changes_within (2 * context + 1) later ≡ false → rows_to_last_change (row ∷ later) ≡ 1
last-first row later far = rw far refl

last-next : (row : Row) (later : List Row) → changes_within (2 * context + 1) later ≡ true → rows_to_last_change (row ∷ later) ≡ suc (rows_to_last_change later)
last-next row later near = rw near refl

pub last-here : (rows : List Row) (k : ℕ) → k < length rows → changes_within (2 * context + 1) (take (length rows - (k + 1)) (drop (k + 1) rows)) ≡ false
    → k + rows_to_last_change (drop k rows) ≡ k + 1
last-here rows k below far =
    ap (λ (l : List Row). k + rows_to_last_change l) (drop_more rows k Same below)
    ∙ ap (λ (n : ℕ). k + n) (last-first (get_or rows k Same) (drop (k + 1) rows) (sym (ap (changes_within (2 * context + 1)) (take_rest rows (k + 1))) ∙ far))

pub last-later : (rows : List Row) (k : ℕ) → k < length rows → changes_within (2 * context + 1) (take (length rows - (k + 1)) (drop (k + 1) rows)) ≡ true
    → k + rows_to_last_change (drop k rows) ≡ (k + 1) + rows_to_last_change (drop (k + 1) rows)
last-later rows k below near =
    let here = last-next (get_or rows k Same) (drop (k + 1) rows) (sym (ap (changes_within (2 * context + 1)) (take_rest rows (k + 1))) ∙ near) in
    let next : k + suc (rows_to_last_change (drop (k + 1) rows)) ≡ (k + 1) + rows_to_last_change (drop (k + 1) rows) = omega arith in
    ap (λ (l : List Row). k + rows_to_last_change l) (drop_more rows k Same below) ∙ ap (λ (n : ℕ). k + n) here ∙ next
