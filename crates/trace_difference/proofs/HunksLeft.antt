-- What is left of the hunks, row after row.
use Rattle.std.proofs.Common.{◌≡◌, ℕ, ◌+◌, ◌-◌, ◌<◌, Bool, true, false, List, ◌∷◌, ◌++◌, take, ap, sym, subst, ◌∙◌, refl, codes}
use Rattle.std.specs.List.{flat_map}
use Rattle.uds_exchange.specs.Meaning.{ItemValue}
use Rattle.uds_difference.specs.declared.row.Row.{Row}
use Rattle.shown_rows.specs.Hunks.{Hunk, begins_hunk, hunk_length}
use Rattle.shown_rows.specs.Rows.{left_count, left_in, right_count, right_in}
use Rattle.uds_rules.specs.Rule.{RuleValue}
use Rattle.trace_difference.specs.Lines.{line_text, lines_of}
use Rattle.trace_difference.specs.Unified.{hunk_text, span_text}
use Rattle.trace_difference.specs.proving.HunkOf.{hunk_of}
use Rattle.trace_difference.proofs.HunkSteps.{at-hunk, before-hunk, hunks_left, in-hunk}
use Rattle.text_parts.proofs.Promises.{IsLeft, same-rest, say-more}

module _ {S : Type 0} (says : S → List ℕ → S → Type 0) (onward : (s m t : S) (a b : List ℕ) → says s a m → says m b t → says s (a ++ b) t)
    (text : Hunk → List ℕ) (old : S) (whole : List ℕ) (rows later : List Row) (row : Row) (shown i j : ℕ) (now : S) where
  abbrev At : List Row → ℕ → ℕ → ℕ → S → Type 0
  At rest shown i j now = IsLeft says old (hunks_left text shown i j rest) whole now

  pub turn-in : rows ≡ row ∷ later → 0 < shown → At rows shown i j now → At later (shown - 1) (i + left_in row) (j + right_in row) now
  turn-in is more left = same-rest says old now _ _ whole (ap (hunks_left text shown i j) is ∙ in-hunk text shown i j row later more) left

  pub turn-at : rows ≡ row ∷ later → shown ≡ 0 → (rest : List Row) (near : Bool) (count : ℕ) (new : S) → rest ≡ rows → near ≡ begins_hunk rest → near ≡ true
      → count ≡ hunk_length rest → At rows shown i j now → says now (text (hunk_of i j (take count rest))) new
      → At later (count - 1) (i + left_in row) (j + right_in row) new
  turn-at is none rest near count new whole-rest found true-found many left said =
      let all : rest ≡ row ∷ later = whole-rest ∙ is in
      let here : begins_hunk (row ∷ later) ≡ true = sym (ap begins_hunk all) ∙ sym found ∙ true-found in
      let length-is : count ≡ hunk_length (row ∷ later) = many ∙ ap hunk_length all in
      let said-is = subst (λ (n : ℕ). says now (text (hunk_of i j (take n (row ∷ later)))) new) length-is
      (subst (λ (l : List Row). says now (text (hunk_of i j (take count l))) new) all said) in
      let now-left = same-rest says old now _ _ whole
      (ap (λ (n : ℕ). hunks_left text n i j rows) none ∙ ap (hunks_left text 0 i j) is ∙ at-hunk text i j row later here) left in
      same-rest says old new _ _ whole (ap (λ (n : ℕ). hunks_left text (n - 1) (i + left_in row) (j + right_in row) later) (sym length-is))
      (say-more says onward old now new (text (hunk_of i j (take (hunk_length (row ∷ later)) (row ∷ later)))) _ whole now-left said-is)

  pub turn-before : rows ≡ row ∷ later → shown ≡ 0 → (rest : List Row) (near : Bool) → rest ≡ rows → near ≡ begins_hunk rest → near ≡ false
      → At rows shown i j now → At later shown (i + left_in row) (j + right_in row) now
  turn-before is none rest near whole-rest found false-found left =
      let here : begins_hunk (row ∷ later) ≡ false = sym (ap begins_hunk (whole-rest ∙ is)) ∙ sym found ∙ false-found in
      same-rest says old now _ _ whole
      (ap (λ (n : ℕ). hunks_left text n i j rows) none ∙ ap (hunks_left text 0 i j) is ∙ before-hunk text i j row later here
      ∙ ap (λ (n : ℕ). hunks_left text n (i + left_in row) (j + right_in row) later) (sym none))
      left

-- the text of a hunk, in the parts that are said
pub hunk-is : (rules : List RuleValue) (xs ys : List ItemValue) (left right : ℕ) (rows : List Row) (l r : ℕ) → l ≡ left_count rows → r ≡ right_count rows
    → (codes "@@ -" ++ span_text left l ++ codes " +" ++ span_text right r ++ codes " @@\n") ++ flat_map line_text (lines_of rules xs ys left right rows)
    ≡ hunk_text rules xs ys (hunk_of left right rows)
hunk-is rules xs ys left right rows l r a b = rw (a, b) refl
