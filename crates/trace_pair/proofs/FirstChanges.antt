-- The first row that is not the same, looked for in one row after another.
use Rattle.std.proofs.Common.{◌≡◌, ℕ, suc, ◌+◌, ◌≤◌, ◌<◌, true, false, List, ◌∷◌, Option, Some, None, length, drop, get_or, option_map, refl, ap, ◌∙◌, arith}
use Rattle.std.proofs.lemmas.List.{drop_all, drop_more}
use Rattle.trace_canon.specs.declared.comparer.Comparison.TheVariants as comparison
use Rattle.uds_difference.specs.Laws.{first_change}
use Rattle.uds_difference.specs.declared.row.Row.{Row}
use Rattle.uds_difference.specs.declared.row.Row.TheVariants.{Same, Changed, OnlyLeft, OnlyRight}
use Rattle.shown_rows.specs.Rows.{is_change}
use Rattle.trace_pair.specs.Compared.{comparison_by}

-- the first row that is not the same, which was found behind so many rows
abbrev pub later_by : ℕ → Option ℕ → Option ℕ
later_by count None = None
later_by count (Some place) = Some (count + place)

later-none : (found : Option ℕ) → found ≡ later_by 0 found
later-none None = refl
later-none (Some place) = let same : place ≡ 0 + place = omega arith in ap (λ (n : ℕ). Some n) same

later-one : (count : ℕ) (found : Option ℕ) → later_by count (option_map (λ (n : ℕ). suc n) found) ≡ later_by (count + 1) found
later-one count None = refl
later-one count (Some place) = let same : count + suc place ≡ count + 1 + place = omega arith in ap (λ (n : ℕ). Some n) same

first-same : (row : Row) (later : List Row) → is_change row ≡ false → first_change (row ∷ later) ≡ option_map (λ (n : ℕ). suc n) (first_change later)
first-same Same later is = refl
first-same Changed later is = absurd (cc is)
first-same OnlyLeft later is = absurd (cc is)
first-same OnlyRight later is = absurd (cc is)

first-here : (row : Row) (later : List Row) → is_change row ≡ true → first_change (row ∷ later) ≡ Some 0
first-here Same later is = absurd (cc is)
first-here Changed later is = refl
first-here OnlyLeft later is = refl
first-here OnlyRight later is = refl

-- the rows before this place are the same
abbrev pub AreSameUpTo : List Row → ℕ → Type 0
AreSameUpTo rows k = first_change rows ≡ later_by k (first_change (drop k rows))

pub none-looked-at : (rows : List Row) → AreSameUpTo rows 0
none-looked-at rows = later-none (first_change rows)

module _ (rows : List Row) (k : ℕ) (same : AreSameUpTo rows k) where
  -- and so is the one at it
  pub one-same : (d : Row) → k < length rows → is_change (get_or rows k d) ≡ false → AreSameUpTo rows (k + 1)
  one-same d below is =
      same ∙ ap (λ (l : List Row). later_by k (first_change l)) (drop_more rows k d below)
      ∙ ap (later_by k) (first-same (get_or rows k d) (drop (k + 1) rows) is) ∙ later-one k (first_change (drop (k + 1) rows))

  -- but not the one at it
  pub one-differs : (d : Row) → k < length rows → is_change (get_or rows k d) ≡ true → comparison_by (first_change rows) ≡ comparison.Different k
  one-differs d below is =
      let here : k + 0 ≡ k = omega arith in
      let found : first_change rows ≡ Some (k + 0) =
      same ∙ ap (λ (l : List Row). later_by k (first_change l)) (drop_more rows k d below)
      ∙ ap (later_by k) (first-here (get_or rows k d) (drop (k + 1) rows) is) in
      ap comparison_by found ∙ ap comparison.Different here

  -- and there are no more
  pub all-same : length rows ≤ k → comparison_by (first_change rows) ≡ comparison.Same
  all-same past = ap comparison_by (same ∙ ap (λ (l : List Row). later_by k (first_change l)) (drop_all k rows past))
