-- Columns that are counted one after another.
use Rattle.std.proofs.Common.{◌≡◌, ℕ, zero, suc, ◌+◌, Bool, true, false, List, [], ◌∷◌, take, drop, Some, arith, ap, ◌∙◌, refl}
use Rattle.std.specs.Prelude.{slice_get, if◌then◌else◌}
use Rattle.std.specs.List.{position_or_len}
use Rattle.std.proofs.lemmas.Option.{none-some, same_Some}
use Rattle.byte_columns.specs.declared.column.Column.{Column}
use Rattle.byte_columns.specs.Columns.{differing, differs}
use Rattle.byte_columns.proofs.Lists.{drop-first}

-- one for a column that differs
abbrev pub one_if : Bool → ℕ
one_if is = if is then 1 else 0

pub count-next : (columns : List Column) (n : ℕ) (here : Column) → slice_get columns n ≡ Some here
    → differing (take (suc n) columns) ≡ differing (take n columns) + one_if (differs here)
count-next [] n here e = absurd (none-some here e)
count-next (first ∷ later) zero here e =
    let same = ap (λ (c : Column). one_if (differs c)) (same_Some first here e) in
    omega arith
count-next (first ∷ later) (suc n) here e = let rest = count-next later n here e in omega arith

pub first-is : (here : Column) (later : List Column) → differs here ≡ true → position_or_len differs (here ∷ later) ≡ 0
first-is here later e = rw e refl

pub first-behind : (here : Column) (later : List Column) → differs here ≡ false → position_or_len differs (here ∷ later) ≡ 1 + position_or_len differs later
first-behind here later e = rw e refl

-- the first column that differs
pub first-here : (columns : List Column) (at : ℕ) (here : Column) → slice_get columns at ≡ Some here → differs here ≡ true
    → at + position_or_len differs (drop at columns) ≡ at
first-here columns at here there e =
    let none = ap (position_or_len differs) (drop-first columns at here there) ∙ first-is here (drop (at + 1) columns) e in
    omega arith

pub first-later : (columns : List Column) (at : ℕ) (here : Column) → slice_get columns at ≡ Some here → differs here ≡ false
    → at + position_or_len differs (drop at columns) ≡ (at + 1) + position_or_len differs (drop (at + 1) columns)
first-later columns at here there e =
    let more = ap (position_or_len differs) (drop-first columns at here there) ∙ first-behind here (drop (at + 1) columns) e in
    omega arith
