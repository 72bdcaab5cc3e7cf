-- Where lines stand.
use Rattle.std.proofs.Common.{◌≡◌, ℕ, zero, suc, ◌+◌, ◌-◌, ◌*◌, ◌≤◌, ◌<◌, min, Bool, true, false, List, [], ◌∷◌, length, take, drop, arith, ap, sym, ◌∙◌, refl}
use Rattle.std.proofs.lemmas.List.{length-take, length-drop, drop-take, take_min}
use Rattle.byte_columns.specs.declared.column.Column.{Column}
use Rattle.byte_columns.specs.Columns.{differing, differs}
use Rattle.byte_columns.specs.Lines.{differing_before, folded_from, in_lines, is_shown, line, line_count, line_differs}
use Rattle.byte_columns.proofs.Counting.{one_if}
use Rattle.byte_columns.proofs.Lists.{take-within}

-- the places of a line
pub record HasPlaces (columns : List Column) (number : ℕ) : Type 0 where
  pub few : number < 256
  pub long : length (line columns number) ≡ min (16 * number + 16) (min (length columns) 4095) - 16 * number
  pub inside : 16 * number < min (length columns) 4095
  pub in_all : length (in_lines columns) ≡ min (length columns) 4095

pub has-places : (columns : List Column) (number : ℕ) → number < line_count columns → HasPlaces columns number
has-places columns number below =
    let all = length-take 4095 columns in
    let rest = length-drop (16 * number) (take 4095 columns) in
    let some = length-take 16 (drop (16 * number) (take 4095 columns)) in
    record { few = omega arith; long = omega arith; inside = omega arith; in_all = omega arith }

pub lines-few : (columns : List Column) → line_count columns ≤ 256
lines-few columns = let all = length-take 4095 columns in omega arith

pub in-all : (columns : List Column) → length (in_lines columns) ≡ min (length columns) 4095
in-all columns = let all = length-take 4095 columns in omega arith

-- how many columns of a list differ at most
differing-one : (is : Bool) (later : ℕ) (all : ℕ) → later ≤ all → one_if is + later ≤ suc all
differing-one true later all h = omega arith
differing-one false later all h = omega arith

pub differing-few : (columns : List Column) → differing columns ≤ length columns
differing-few [] = omega arith
differing-few (here ∷ later) = differing-one (differs here) (differing later) (length later) (differing-few later)

-- a line, as a stretch of all columns
pub line-is : (columns : List Column) (number end : ℕ) → number < line_count columns → end ≡ min (16 * number + 16) (min (length columns) 4095)
    → take (end - 16 * number) (drop (16 * number) columns) ≡ line columns number
line-is columns number end below e =
    let places = has-places columns number below in
    let inside = places.inside in
    let first = 16 * number in
    let more = 4095 - 16 * number in
    let long = length-drop (16 * number) columns in
    let all : 16 * number + (4095 - 16 * number) ≡ 4095 = omega arith in
    let cut : drop (16 * number) (take 4095 columns) ≡ take (4095 - 16 * number) (drop (16 * number) columns) =
    ap (λ (n : ℕ). drop (16 * number) (take n columns)) (sym all) ∙ drop-take (16 * number) (4095 - 16 * number) columns in
    let count : end - 16 * number ≡ min (min 16 (4095 - 16 * number)) (length (drop (16 * number) columns)) = omega arith in
    ap (λ (n : ℕ). take n (drop (16 * number) columns)) count
    ∙ take_min (min 16 (4095 - 16 * number)) (drop (16 * number) columns)
    ∙ sym (take-within 16 (4095 - 16 * number) (drop (16 * number) columns))
    ∙ ap (take 16) (sym cut)

-- what is folded together from a line on
pub folded-shown : (columns : List Column) (number more : ℕ) → is_shown columns number ≡ true → folded_from columns number more ≡ 0
folded-shown columns number zero is = refl
folded-shown columns number (suc more) is = rw is refl

pub folded-next : (columns : List Column) (number all : ℕ) → number < all → is_shown columns number ≡ false
    → folded_from columns number (all - number) ≡ 1 + folded_from columns (number + 1) (all - (number + 1))
folded-next columns number all below is =
    let next : all - number ≡ suc (all - (number + 1)) = omega arith in
    rw (next, is) refl

pub before-next : (columns : List Column) (number : ℕ) → differing_before columns (number + 1) ≡ one_if (line_differs columns number) + differing_before columns number
before-next columns number = let next : number + 1 ≡ suc number = omega arith in ap (differing_before columns) next

pub before-few : (columns : List Column) (number : ℕ) → differing_before columns number ≤ number
before-few columns zero = omega arith
before-few columns (suc number) = one-few (line_differs columns number) (differing_before columns number) number (before-few columns number)
  where
    one-few : (is : Bool) (before number : ℕ) → before ≤ number → one_if is + before ≤ suc number
    one-few true before number h = omega arith
    one-few false before number h = omega arith

pub folded-none : (columns : List Column) (number more : ℕ) → more ≡ 0 → folded_from columns number more ≡ 0
folded-none columns number more e = ap (folded_from columns number) e
