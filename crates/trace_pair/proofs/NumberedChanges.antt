-- The differences that rows of the table of items begin, and the numbers to which the page links.
use Rattle.std.proofs.Common.{◌≡◌, ℕ, zero, suc, ◌+◌, ◌-◌, ◌≤◌, ◌<◌, Bool, true, false, List, [], ◌∷◌, ◌++◌, Option, Some}
use Rattle.std.proofs.Common.{None, option_to_list, map, length, take, ap, sym, subst, ◌∙◌, arith, refl, inl, inr}
use Rattle.std.specs.Prelude.{◌==◌, if◌then◌else◌, nat_le, nat_lt, slice_get}
use Rattle.std.specs.List.{AllByRecursion, flat_map, range_with_len}
use Rattle.std.proofs.lemmas.Bool.{cases_lt, eqb-true, le-leb, le-ltb, lt-leb, lt-ltb}
use Rattle.uds_difference.specs.declared.row.Row.{Row}
use Rattle.uds_difference.specs.declared.row.Row.TheVariants.{Same}
use Rattle.shown_rows.specs.declared.changes.Change.{Change}
use Rattle.shown_rows.specs.Changes.{begins_change, change, change_length, changes, changes_from}
use Rattle.shown_rows.specs.Folds.{context_behind}
use Rattle.shown_rows.specs.Rows.{left_in, right_in}
use Rattle.trace_report.specs.Linked.{IsAmong}
use Rattle.trace_report.specs.Session.{SessionValue}
use Rattle.trace_pair.specs.declared.item_row.RowPlace.{RowPlace}
use Rattle.trace_pair.specs.Differences.{difference_lines}
use Rattle.trace_pair.specs.LinkLaws.{DifferencesAreTheChanges, LinksNameIdentifiers, ListLeadsToTheTable, differences, identifier}
use Rattle.trace_pair.specs.TableLaws.{table_rows}
use Rattle.trace_pair.specs.Links.{NumberedChange, difference_at, difference_in, linked_numbers, listed_line}
use Rattle.trace_pair.specs.Links.{number_alone, number_behind, number_in, number_unlisted, numbered}
use Rattle.trace_pair.specs.RowStretches.{PlacedRow, changes_with, placed_from}
use Rattle.trace_pair.proofs.RowsOnce.{links_have_targets, of-table}

-- The differences are the changes.

module _ (all : ℕ) where
  -- one more row, with which a change begins or none does
  one-difference : (begins : Bool) (before count : ℕ) (place : RowPlace) (rest : ℕ → List PlacedRow) (others : List Change)
      → ((n : ℕ) → flat_map difference_in (rest n) ≡ numbered all (n + 1) others)
      → difference_at place (if begins then Some (record { number = before + 1; all = all; count = count }) else None)
      ++ flat_map difference_in (rest (if begins then before + 1 else before))
      ≡ numbered all (before + 1) (if begins then change place.kind place.left place.right count ∷ others else others)
  one-difference true before count place rest others are =
      ap (λ (l : List NumberedChange). record { here = change place.kind place.left place.right count; number = before + 1; all = all } ∷ l) (are (before + 1))
  one-difference false before count place rest others are = are before

  begun-are : (before : ℕ) (front : Row) (left right more : ℕ) (rows : List Row)
      → flat_map difference_in (placed_from all before front left right more rows) ≡ numbered all (before + 1) (changes_from front left right rows)
  begun-are before front left right more [] = refl
  begun-are before front left right more (row ∷ rows) =
      one-difference (begins_change front row) before (change_length row rows) (record { kind = row; left = left; right = right })
      (λ (n : ℕ). placed_from all n row (left + left_in row) (right + right_in row) (context_behind more row) rows)
      (changes_from row (left + left_in row) (right + right_in row) rows)
      (λ (n : ℕ). begun-are n row (left + left_in row) (right + right_in row) (context_behind more row) rows)

pub differences_are_the_changes : DifferencesAreTheChanges
differences_are_the_changes rows = ap (flat_map difference_in) (of-table rows) ∙ begun-are (length (changes rows)) 0 Same 0 0 0 rows

-- The list.

first-numbered : (all count number : ℕ) (here : List Change) → take count (numbered all number here) ≡ numbered all number (take count here)
first-numbered all zero number here = refl
first-numbered all (suc count) number [] = refl
first-numbered all (suc count) number (here ∷ later) =
    ap (λ (l : List NumberedChange). record { here = here; number = number; all = all } ∷ l) (first-numbered all count (number + 1) later)

module _ (left right : SessionValue) (count all : ℕ) where
  lines-are : (number : ℕ) (here : List Change) → difference_lines left right count number here ≡ flat_map (listed_line left right count) (numbered all number here)
  lines-are number [] = refl
  lines-are number (here ∷ later) =
      ap (λ (l : List ℕ). listed_line left right count (record { here = here; number = number; all = all }) ++ l) (lines-are (number + 1) later)

pub list_leads_to_the_table : ListLeadsToTheTable
list_leads_to_the_table left right count rows =
    let all = length (changes rows) in
    lines-are left right count all 1 (take 50 (changes rows))
    ∙ ap (flat_map (listed_line left right count)) (sym (first-numbered all 50 1 (changes rows)))
    ∙ ap (λ (l : List NumberedChange). flat_map (listed_line left right count) (take 50 l)) (sym (differences_are_the_changes rows))

-- The links.

many-numbered : (all number : ℕ) (here : List Change) → length (numbered all number here) ≡ length here
many-numbered all number [] = refl
many-numbered all number (here ∷ later) = ap suc (many-numbered all (number + 1) later)

among : (first count i : ℕ) → i < count → slice_get (range_with_len first count) i ≡ Some (first + i)
among first zero i below = absurd (omega arith)
among first (suc count) zero below = let none : first ≡ first + 0 = omega arith in ap (λ (n : ℕ). Some n) none
among first (suc count) (suc i) below =
    let sum : first + 1 + i ≡ first + suc i = omega arith in
    among (first + 1) count i (omega arith) ∙ ap (λ (n : ℕ). Some n) sum

module _ (P : ℕ → Type 0) where
  both : (xs ys : List ℕ) → AllByRecursion P xs → AllByRecursion P ys → AllByRecursion P (xs ++ ys)
  both [] ys left right = right
  both (x ∷ xs) ys left right = (left.0, both xs ys left.1 right)

  module _ (count : ℕ) (has : (n : ℕ) → 1 ≤ n → n ≤ count → P n) where
    lines-lead : (most all number : ℕ) (here : List Change) → 1 ≤ number → number + length here ≤ count + 1 → AllByRecursion P (map number_in (take most (numbered all number here)))
    lines-lead zero all number here some within = tt
    lines-lead (suc most) all number [] some within = tt
    lines-lead (suc most) all number (here ∷ later) some within =
        (has number some (omega (arith, within)), lines-lead most all (number + 1) later (omega arith) (omega (arith, within)))

    end-leads : AllByRecursion P (number_unlisted count)
    end-leads = elim (cases_lt 50 count) [
      | inl more ↦ subst (λ (is : Bool). AllByRecursion P (if is then [] else 51 ∷ [])) (sym (lt-leb count 50 more)) (has 51 (omega arith) (omega (arith, more)), tt)
      | inr few ↦ subst (λ (is : Bool). AllByRecursion P (if is then [] else 51 ∷ [])) (sym (le-leb count 50 few)) tt
    ]

    one-leads : (is : Bool) → (count == 1) ≡ is → AllByRecursion P (if is then 1 ∷ [] else [])
    one-leads true e = (has 1 (omega arith) (omega (arith, eqb-true count 1 e)), tt)
    one-leads false e = tt

    next-leads : (number : ℕ) → 1 ≤ number → AllByRecursion P (option_to_list (if nat_lt number count then Some (number + 1) else None))
    next-leads number some = elim (cases_lt number count) [
      | inl more ↦
          subst (λ (is : Bool). AllByRecursion P (option_to_list (if is then Some (number + 1) else None))) (sym (lt-ltb number count more))
          (has (number + 1) (omega arith) (omega (arith, more)), tt)
      | inr last ↦ subst (λ (is : Bool). AllByRecursion P (option_to_list (if is then Some (number + 1) else None))) (sym (le-ltb number count last)) tt
    ]

    each-leads : (number : ℕ) (here : List Change) → 1 ≤ number → AllByRecursion P (flat_map number_behind (numbered count number here))
    each-leads number [] some = tt
    each-leads number (here ∷ later) some =
        both (option_to_list (if nat_lt number count then Some (number + 1) else None)) (flat_map number_behind (numbered count (number + 1) later))
        (next-leads number some) (each-leads (number + 1) later (omega arith))

    all-lead : (here : List Change) → length here ≡ count → AllByRecursion P (linked_numbers (numbered count 1 here))
    all-lead here is =
        let long : length (numbered count 1 here) ≡ count = many-numbered count 1 here ∙ is in
        let lines = map number_in (take 50 (numbered count 1 here)) in
        subst (λ (n : ℕ). AllByRecursion P (lines ++ number_unlisted n ++ number_alone n ++ flat_map number_behind (numbered count 1 here))) (sym long)
        (both (lines ++ number_unlisted count ++ number_alone count) (flat_map number_behind (numbered count 1 here))
        (both (lines ++ number_unlisted count) (number_alone count)
        (both lines (number_unlisted count) (lines-lead 50 count 1 here (omega arith) (omega (arith, is))) end-leads) (one-leads (count == 1) refl))
        (each-leads 1 here (omega arith)))

-- the number of a change is that of an identifier
named : (rows : List Row) (n : ℕ) → 1 ≤ n → n ≤ length (changes rows) → IsAmong n (flat_map identifier (table_rows rows))
named rows n some within =
    let back : 1 + (n - 1) ≡ n = omega arith in
    (n - 1, ap (λ (l : List ℕ). slice_get l (n - 1)) (links_have_targets rows) ∙ among 1 (length (changes rows)) (n - 1) (omega arith) ∙ ap (λ (m : ℕ). Some m) back)

pub links_name_identifiers : LinksNameIdentifiers
links_name_identifiers rows =
    let among_them = λ (n : ℕ). IsAmong n (flat_map identifier (table_rows rows)) in
    subst (λ (l : List NumberedChange). AllByRecursion among_them (linked_numbers l)) (sym (differences_are_the_changes rows))
    (all-lead among_them (length (changes rows)) (named rows) (changes rows) refl)
