-- Rows that are folded, one after another.
use Rattle.std.proofs.Common.{◌≡◌, ℕ, suc, ◌+◌, ◌-◌, ◌≤◌, ◌<◌, true, false, List, ◌∷◌, length, take, drop, get_or, ap, sym, ◌∙◌, arith, refl}
use Rattle.std.proofs.lemmas.List.{drop_all, drop_more, take_rest}
use Rattle.uds_difference.specs.declared.row.Row.{Row}
use Rattle.uds_difference.specs.declared.row.Row.TheVariants.{Same}
use Rattle.shown_rows.specs.Folds.{folded, is_shown}

pub fold-first : (row : Row) (later : List Row) → is_shown 0 (row ∷ later) ≡ true → folded (row ∷ later) ≡ 0
fold-first row later e = rw e refl

pub fold-next : (row : Row) (later : List Row) → is_shown 0 (row ∷ later) ≡ false → folded (row ∷ later) ≡ suc (folded later)
fold-next row later e = rw e refl

pub fold-here : (rows : List Row) (k : ℕ) → k < length rows → is_shown 0 (take (length rows - k) (drop k rows)) ≡ true → k + folded (drop k rows) ≡ k
fold-here rows k below e =
    let first = drop_more rows k Same below in
    let shown = sym (ap (is_shown 0) first) ∙ sym (ap (is_shown 0) (take_rest rows k)) ∙ e in
    let none = ap folded first ∙ fold-first (get_or rows k Same) (drop (k + 1) rows) shown in
    omega arith

pub fold-later : (rows : List Row) (k : ℕ) → k < length rows → is_shown 0 (take (length rows - k) (drop k rows)) ≡ false
    → k + folded (drop k rows) ≡ (k + 1) + folded (drop (k + 1) rows)
fold-later rows k below e =
    let first = drop_more rows k Same below in
    let far = sym (ap (is_shown 0) first) ∙ sym (ap (is_shown 0) (take_rest rows k)) ∙ e in
    let more = ap folded first ∙ fold-next (get_or rows k Same) (drop (k + 1) rows) far in
    omega arith

pub fold-end : (rows : List Row) (k : ℕ) → length rows ≤ k → k + folded (drop k rows) ≡ k
fold-end rows k past = let none = ap folded (drop_all k rows past) in omega arith
