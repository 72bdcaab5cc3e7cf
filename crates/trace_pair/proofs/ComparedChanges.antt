-- The changes of rows by the first row that is not the same.
use Rattle.std.proofs.Common.{◌≡◌, ℕ, suc, ◌+◌, true, false, List, [], ◌∷◌, Option, Some, None, option_map, refl, arith}
use Rattle.trace_canon.specs.declared.comparer.Comparison.TheVariants as comparison
use Rattle.uds_difference.specs.Laws.{first_change}
use Rattle.uds_difference.specs.declared.row.Row.{Row}
use Rattle.uds_difference.specs.declared.row.Row.TheVariants.{Same, Changed, OnlyLeft, OnlyRight}
use Rattle.shown_rows.specs.Changes.{changes, changes_from}
use Rattle.shown_rows.specs.Rows.{differs}
use Rattle.shown_rows.specs.declared.changes.Change.{Change}
use Rattle.trace_pair.specs.Compared.{comparison_by}
use Rattle.trace_pair.specs.Laws.{BeginBehind, ChangesAreOfComparison}

-- the first change stands behind so many items of the one session and of the other
abbrev Begin : ℕ → ℕ → List Change → Type 0
Begin left right all = (here : Change) × (later : List Change) × (all ≡ here ∷ later) × (here.left ≡ left) × (here.right ≡ right)

-- what is so of rows whose first change stands behind so many of them, from so many items of both on
abbrev Is : Option ℕ → ℕ → ℕ → List Row → Type 0
Is None left right rows = (differs rows ≡ false) × (changes_from Same left right rows ≡ [])
Is (Some place) left right rows = (differs rows ≡ true) × Begin (left + place) (right + place) (changes_from Same left right rows)

is-so : (rows : List Row) (left right : ℕ) → Is (first_change rows) left right rows
is-so [] left right = (refl, refl)
is-so (Same ∷ rows) left right = behind (first_change rows) (is-so rows (left + 1) (right + 1))
  where
    behind : (found : Option ℕ) → Is found (left + 1) (right + 1) rows → Is (option_map (λ (n : ℕ). suc n) found) left right (Same ∷ rows)
    behind None so = so
    behind (Some place) (some, (first, later, are, at, beside)) = (some, (first, later, are, omega (arith, at), omega (arith, beside)))
is-so (Changed ∷ rows) left right = (refl, (_, _, refl, omega arith, omega arith))
is-so (OnlyLeft ∷ rows) left right = (refl, (_, _, refl, omega arith, omega arith))
is-so (OnlyRight ∷ rows) left right = (refl, (_, _, refl, omega arith, omega arith))

pub of-comparison : ChangesAreOfComparison
of-comparison rows = by (first_change rows) (is-so rows 0 0)
  where
    by : (found : Option ℕ) → Is found 0 0 rows
        → (comparison_by found ≡ comparison.Same → (differs rows ≡ false) × (changes rows ≡ []))
        × ((place : ℕ) → comparison_by found ≡ comparison.Different place → (differs rows ≡ true) × BeginBehind place (changes rows))
    by None so = (λ same. so, λ place is. absurd (cc is))
    by (Some place) (some, (first, later, are, at, beside)) =
        (λ same. absurd (cc same), λ other is. let e : place ≡ other = cc in (some, (first, later, are, omega (arith, at, e), omega (arith, beside, e))))
