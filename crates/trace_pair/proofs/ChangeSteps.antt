-- The changes of rows, one row after another.
use Rattle.std.proofs.Common.{◌≡◌, ℕ, zero, suc, ◌+◌, ◌≤◌, ◌<◌, ◌^◌, Bool, true, false, List, [], ◌∷◌, length}
use Rattle.std.proofs.Common.{drop, get_or, Option, Some, None, IfSome, ap, sym, ◌∙◌, arith, refl}
use Rattle.std.specs.Prelude.{slice_get, if◌then◌else◌}
use Rattle.std.proofs.lemmas.List.{drop_more}
use Rattle.std.proofs.lemmas.Option.{none-some, same_Some}
use Rattle.uds_difference.specs.declared.row.Row.{Row}
use Rattle.uds_difference.specs.declared.row.Row.TheVariants.{Same, Changed, OnlyLeft, OnlyRight}
use Rattle.shown_rows.specs.declared.changes.Change.{Change}
use Rattle.shown_rows.specs.Changes.{begins_change, change, change_length, changes, changes_from, run_length}
use Rattle.shown_rows.specs.Rows.{changes_within, left_in, right_in, same_row}
use Rattle.trace_pair.specs.ChangeWords.{IsSmall}

-- the change that begins with a row, if one does
abbrev pub found_at : Row → ℕ → ℕ → Row → List Row → Option Change
found_at front i j row later = if begins_change front row then Some (change row i j (change_length row later)) else None

with-it : (begins : Bool) (it here : Change) (others : List Change) → (if begins then Some it else None) ≡ Some here
    → (if begins then it ∷ others else others) ≡ here ∷ others
with-it true it here others is = ap (λ (h : Change). h ∷ others) (same_Some it here is)
with-it false it here others is = absurd (none-some here is)

without-it : (begins : Bool) (it : Change) (others : List Change) → ◌≡◌ {A = Option Change} (if begins then Some it else None) None
    → (if begins then it ∷ others else others) ≡ others
without-it true it others is = absurd (none-some it (sym is))
without-it false it others is = refl

never-begun : (begins : Bool) (it : Change) → ◌≡◌ {A = Option Change} (if begins then Some it else None) None → begins ≡ false
never-begun true it is = absurd (none-some it (sym is))
never-begun false it is = refl

-- What begins with the first row of some, by the row in front of them: the changes of the rows behind it are those
-- behind one change, or all.
module _ (front : Row) (i j a b : ℕ) (rows later : List Row) (row : Row) (first : rows ≡ row ∷ later) (found : Option Change)
    (is : found ≡ found_at front i j row later) (left_is : a ≡ left_in row) (right_is : b ≡ right_in row) where
  behind : changes_from row (i + left_in row) (j + right_in row) later ≡ changes_from row (i + a) (j + b) later
  behind = λ n. changes_from row (i + sym left_is n) (j + sym right_is n) later

  pub one-begins : (here : Change) → found ≡ Some here → changes_from front i j rows ≡ here ∷ changes_from row (i + a) (j + b) later
  one-begins here there =
      ap (changes_from front i j) first
      ∙ with-it (begins_change front row) (change row i j (change_length row later)) here (changes_from row (i + left_in row) (j + right_in row) later) (sym is ∙ there)
      ∙ ap (λ (l : List Change). here ∷ l) behind

  pub none-begins : found ≡ None → changes_from front i j rows ≡ changes_from row (i + a) (j + b) later
  none-begins none =
      ap (changes_from front i j) first
      ∙ without-it (begins_change front row) (change row i j (change_length row later)) (changes_from row (i + left_in row) (j + right_in row) later) (sym is ∙ none) ∙ behind

-- Behind rows that are the same, only one that is the same begins no change.

begins-none : (row : Row) → begins_change Same row ≡ false → row ≡ Same
begins-none Same is = refl
begins-none Changed is = absurd (cc is)
begins-none OnlyLeft is = absurd (cc is)
begins-none OnlyRight is = absurd (cc is)

pub still-same : (rows : List Row) (k i j left right : ℕ) (d : Row) (found : Option Change) → k < length rows
    → found ≡ found_at Same i j (get_or rows k d) (drop (k + 1) rows) → found ≡ None → left ≡ left_in (get_or rows k d) → right ≡ right_in (get_or rows k d)
    → changes rows ≡ changes_from Same i j (drop k rows) → changes rows ≡ changes_from Same (i + left) (j + right) (drop (k + 1) rows)
still-same rows k i j left right d found below is none left_is right_is so_far =
    let same : get_or rows k d ≡ Same =
    begins-none (get_or rows k d) (never-begun (begins_change Same (get_or rows k d)) (change (get_or rows k d) i j (change_length (get_or rows k d) (drop (k + 1) rows))) (sym is ∙ none)) in
    so_far ∙ none-begins Same i j left right (drop k rows) (drop (k + 1) rows) (get_or rows k d) (drop_more rows k d below) found is left_is right_is none
    ∙ ap (λ (front : Row). changes_from front (i + left) (j + right) (drop (k + 1) rows)) same

-- A change stands where a memory has room for it.

run-within : (kind : Row) (rows : List Row) → run_length kind rows ≤ length rows
run-within kind [] = omega arith
run-within kind (row ∷ rows) = by (same_row kind row) (run-within kind rows)
  where
    by : (is : Bool) → run_length kind rows ≤ length rows → (if is then suc (run_length kind rows) else 0) ≤ suc (length rows)
    by true rest = omega (arith, rest)
    by false rest = omega arith

change-within : (row : Row) (later : List Row) → change_length row later ≤ suc (length later)
change-within Same later = omega (arith, run-within Same later)
change-within Changed later = omega arith
change-within OnlyLeft later = omega (arith, run-within OnlyLeft later)
change-within OnlyRight later = omega (arith, run-within OnlyRight later)

pub is-small : (front : Row) (i j : ℕ) (row : Row) (later : List Row) (found : Option Change) → found ≡ found_at front i j row later
    → i + suc (length later) < 2 ^ 63 → j + suc (length later) < 2 ^ 63 → IfSome found IsSmall
is-small front i j row later None is left right = tt
is-small front i j row later (Some here) is left right = by (begins_change front row) is
  where
    fits : change_length row later ≤ suc (length later)
    fits = change-within row later

    by : (begins : Bool) → Some here ≡ (if begins then Some (change row i j (change_length row later)) else None) → IsSmall here
    by true e =
        let it = same_Some here (change row i j (change_length row later)) e in
        let first : here.left ≡ i = ap (λ (h : Change). h.left) it in
        let second : here.right ≡ j = ap (λ (h : Change). h.right) it in
        let many : here.count ≡ change_length row later = ap (λ (h : Change). h.count) it in
        record { left = omega (arith, first, many, fits, left); right = omega (arith, second, many, fits, right) }
    by false e = absurd (none-some here (sym e))

-- Before the first change all rows are the same.

not-behind : (here first : Change) (at count : ℕ) → here ≡ first → first.left ≡ at → here.left ≡ at + suc count → ⊥
not-behind here first at count is left_is before = let there : here.left ≡ first.left = ap (λ (it : Change). it.left) is in omega (arith, there, left_is, before)

pub none-before : (rows : List Row) (at : ℕ) (here : Change) → Some here ≡ slice_get (changes_from Same at at rows) 0 → (count : ℕ) → here.left ≡ at + count
    → changes_within count rows ≡ false
none-before [] at here is count before = absurd (none-some here (sym is))
none-before (row ∷ rows) at here is zero before = refl
none-before (Same ∷ rows) at here is (suc count) before = none-before rows (at + 1) here is count (omega (arith, before))
none-before (Changed ∷ rows) at here is (suc count) before = absurd (not-behind here (change Changed at at (change_length Changed rows)) at count (same_Some here _ is) refl before)
none-before (OnlyLeft ∷ rows) at here is (suc count) before = absurd (not-behind here (change OnlyLeft at at (change_length OnlyLeft rows)) at count (same_Some here _ is) refl before)
none-before (OnlyRight ∷ rows) at here is (suc count) before = absurd (not-behind here (change OnlyRight at at (change_length OnlyRight rows)) at count (same_Some here _ is) refl before)
