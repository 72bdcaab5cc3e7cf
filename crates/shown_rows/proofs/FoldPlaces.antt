-- The rows that are folded together.
use Rattle.std.proofs.Common.{◌≡◌, ℕ, suc, ◌+◌, ◌<◌, Bool, true, false, List, [], ◌∷◌, ◌++◌, length, drop, sym, subst, ◌∙◌, arith, refl, inl, inr}
use Rattle.std.proofs.lemmas.Bool.{cases_lt}
use Rattle.uds_difference.specs.declared.row.Row.{Row}
use Rattle.shown_rows.specs.Folds.{folded, is_shown}
use Rattle.shown_rows.specs.Laws.{FoldedRowsStandFar, NoneNear, StandsNearChange}
use Rattle.shown_rows.proofs.FoldSteps.{fold-first, fold-next}
use Rattle.shown_rows.proofs.HunkPlaces.{is-far}
use Rattle.shown_rows.proofs.NearChanges.{Since, drop-front, near-shown, one-on, row-at, shown-near, since-all}

-- so many rows from a place on, of so many
record IsFold (all : List Row) (place count long : ℕ) : Type 0 where
  far : NoneNear all place (place + count)
  ends : count < long → StandsNearChange all (place + count)

module _ (all : List Row) (place : ℕ) (row : Row) (later : List Row) (is : drop place all ≡ row ∷ later) (since : Since all place 0) where
  none-folded : is_shown 0 (row ∷ later) ≡ true → IsFold all place 0 (length (row ∷ later))
  none-folded shown =
      let sum : place ≡ place + 0 = omega arith in
      record {
        far = λ k from below near. omega arith;
        ends = λ below. subst (StandsNearChange all) sum (shown-near all place (row ∷ later) is 0 since shown);
      }

  one-folded : is_shown 0 (row ∷ later) ≡ false → (Since all (place + 1) 0 → IsFold all (place + 1) (folded later) (length later))
      → IsFold all place (suc (folded later)) (length (row ∷ later))
  one-folded not behind =
      let here = row-at all place row later is in
      let next = behind (subst (Since all (place + 1)) (is-far 0 row later not).none_behind (one-on all place 0 row here.row_is since)) in
      let sum : place + 1 + folded later ≡ place + suc (folded later) = omega arith in
      record {
        far = λ k from below. elim (cases_lt k (place + 1)) [
          | inl first ↦ (let same : k ≡ place = omega arith in λ near. cc (sym (near-shown all place (row ∷ later) is 0 since (subst (StandsNearChange all) same near)) ∙ not))
          | inr past ↦ next.far k past (omega arith)
        ];
        ends = λ below. subst (StandsNearChange all) sum (next.ends (omega arith));
      }

  fold-row : (Since all (place + 1) 0 → IsFold all (place + 1) (folded later) (length later)) → IsFold all place (folded (row ∷ later)) (length (row ∷ later))
  fold-row behind = by (is_shown 0 (row ∷ later)) refl
    where
      by : (shown : Bool) → is_shown 0 (row ∷ later) ≡ shown → IsFold all place (folded (row ∷ later)) (length (row ∷ later))
      by true e = subst (λ (n : ℕ). IsFold all place n (length (row ∷ later))) (sym (fold-first row later e)) (none-folded e)
      by false e = subst (λ (n : ℕ). IsFold all place n (length (row ∷ later))) (sym (fold-next row later e)) (one-folded e behind)

fold-is : (later all : List Row) (place : ℕ) → drop place all ≡ later → Since all place 0 → IsFold all place (folded later) (length later)
fold-is [] all place is since = record { far = λ k from below near. omega arith; ends = λ below. absurd (omega arith) }
fold-is (row ∷ later) all place is since =
    fold-row all place row later is since (fold-is later all (place + 1) (row-at all place row later is).next)

pub folded_rows_stand_far : FoldedRowsStandFar
folded_rows_stand_far front later none =
    let since = subst (Since (front ++ later) (length front)) none (since-all front later) in
    let fold = fold-is later (front ++ later) (length front) (drop-front front later) since in
    (fold.far, fold.ends)
