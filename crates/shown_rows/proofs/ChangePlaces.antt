-- The changes stand at their places.
use Rattle.std.proofs.Common.{◌≡◌, ℕ, suc, ◌+◌, List, [], ◌∷◌, ◌++◌, drop, replicate, ap, sym, subst, ◌∙◌, arith, refl}
use Rattle.uds_difference.specs.declared.row.Row.{Row}
use Rattle.uds_difference.specs.declared.row.Row.TheVariants.{Same, Changed, OnlyLeft, OnlyRight}
use Rattle.shown_rows.specs.declared.changes.Change.{Change}
use Rattle.shown_rows.specs.Changes.{change, changes_from, run_length}
use Rattle.shown_rows.specs.Laws.{BeginOtherwise, ChangesStandAtTheirPlaces, HasChanges, IsWhole, rows_of_change}
use Rattle.shown_rows.specs.Rows.{left_count, left_in, right_count, right_in}

-- ---- rows in front of others

none-behind : (front : List Row) → front ++ [] ≡ front
none-behind [] = refl
none-behind (row ∷ front) = ap (λ (l : List Row). row ∷ l) (none-behind front)

one-behind : (front : List Row) (row : Row) (later : List Row) → (front ++ (row ∷ [])) ++ later ≡ front ++ (row ∷ later)
one-behind [] row later = refl
one-behind (first ∷ front) row later = ap (λ (l : List Row). first ∷ l) (one-behind front row later)

left-more : (front : List Row) (row : Row) → left_count (front ++ (row ∷ [])) ≡ left_count front + left_in row
left-more [] row = omega arith
left-more (first ∷ front) row = let more = left-more front row in omega arith

right-more : (front : List Row) (row : Row) → right_count (front ++ (row ∷ [])) ≡ right_count front + right_in row
right-more [] row = omega arith
right-more (first ∷ front) row = let more = right-more front row in omega arith

-- how many items of both sessions stand in front
pub record AreCounts (front : List Row) (left right : ℕ) : Type 0 where
  pub left_is : left ≡ left_count front
  pub right_is : right ≡ right_count front

pub one-more : (front : List Row) (left right : ℕ) (row : Row) → AreCounts front left right → AreCounts (front ++ (row ∷ [])) (left + left_in row) (right + right_in row)
one-more front left right row are =
    let one = left-more front row in
    let other = right-more front row in
    let first = are.left_is in
    let second = are.right_is in
    record { left_is = omega arith; right_is = omega arith }

-- ---- one row more

pass-same : (front rows : List Row) (changes : List Change) → HasChanges (front ++ (Same ∷ [])) rows changes → HasChanges front (Same ∷ rows) changes
pass-same front rows [] all = ap (λ (l : List Row). Same ∷ l) all
pass-same front rows (here ∷ changes) has =
    let stands = has.2 in (
      Same ∷ has.0,
      has.1,
      record {
        place = ap (λ (l : List Row). Same ∷ l) stands.place;
        all_same = ap (λ (l : List Row). Same ∷ l) stands.all_same;
        left = stands.left ∙ ap left_count (one-behind front Same has.0);
        right = stands.right ∙ ap right_count (one-behind front Same has.0);
        whole = stands.whole;
      },
      subst (λ (l : List Row). HasChanges l has.1 changes) (one-behind front Same (has.0 ++ rows_of_change here)) has.3,
    )

-- a change at the first row
module _ (front : List Row) (left right : ℕ) (are : AreCounts front left right) where
  pub at-first : (kind : Row) (count : ℕ) (rows later : List Row) (changes : List Change) → rows ≡ replicate count kind ++ later → IsWhole kind count later
      → HasChanges (front ++ replicate count kind) later changes → HasChanges front rows (change kind left right count ∷ changes)
  at-first kind count rows later changes place whole behind = (
    [],
    later,
    record {
      place = place;
      all_same = refl;
      left = are.left_is ∙ sym (ap left_count (none-behind front));
      right = are.right_is ∙ sym (ap right_count (none-behind front));
      whole = whole;
    },
    behind,
  )

-- ---- runs

left-run : (rows : List Row) → rows ≡ replicate (run_length OnlyLeft rows) OnlyLeft ++ drop (run_length OnlyLeft rows) rows
left-run [] = refl
left-run (Same ∷ rows) = refl
left-run (Changed ∷ rows) = refl
left-run (OnlyLeft ∷ rows) = ap (λ (l : List Row). OnlyLeft ∷ l) (left-run rows)
left-run (OnlyRight ∷ rows) = refl

left-end : (rows : List Row) → BeginOtherwise OnlyLeft (drop (run_length OnlyLeft rows) rows)
left-end [] = tt
left-end (Same ∷ rows) = refl
left-end (Changed ∷ rows) = refl
left-end (OnlyLeft ∷ rows) = left-end rows
left-end (OnlyRight ∷ rows) = refl

right-run : (rows : List Row) → rows ≡ replicate (run_length OnlyRight rows) OnlyRight ++ drop (run_length OnlyRight rows) rows
right-run [] = refl
right-run (Same ∷ rows) = refl
right-run (Changed ∷ rows) = refl
right-run (OnlyLeft ∷ rows) = refl
right-run (OnlyRight ∷ rows) = ap (λ (l : List Row). OnlyRight ∷ l) (right-run rows)

right-end : (rows : List Row) → BeginOtherwise OnlyRight (drop (run_length OnlyRight rows) rows)
right-end [] = tt
right-end (Same ∷ rows) = refl
right-end (Changed ∷ rows) = refl
right-end (OnlyLeft ∷ rows) = refl
right-end (OnlyRight ∷ rows) = right-end rows

-- ---- all rows, by the one in front of them

-- what holds of rows in front of which this one stands: those of a change that it belongs to are passed
abbrev pub Claim : Row → List Row → ℕ → ℕ → List Row → Type 0
Claim Same front i j rows = HasChanges front rows (changes_from Same i j rows)
Claim Changed front i j rows = HasChanges front rows (changes_from Changed i j rows)
Claim OnlyLeft front i j rows =
    HasChanges (front ++ replicate (run_length OnlyLeft rows) OnlyLeft) (drop (run_length OnlyLeft rows) rows) (changes_from OnlyLeft i j rows)
Claim OnlyRight front i j rows =
    HasChanges (front ++ replicate (run_length OnlyRight rows) OnlyRight) (drop (run_length OnlyRight rows) rows) (changes_from OnlyRight i j rows)

-- behind a run that ends there
ended : (front rows : List Row) (changes : List Change) → HasChanges front rows changes → HasChanges (front ++ []) rows changes
ended front rows changes has = subst (λ (l : List Row). HasChanges l rows changes) (sym (none-behind front)) has

module _ (front : List Row) (i j : ℕ) (are : AreCounts front i j) (rows : List Row) where
  from-same : Claim Same (front ++ (Same ∷ [])) (i + 1) (j + 1) rows → HasChanges front (Same ∷ rows) (changes_from Same (i + 1) (j + 1) rows)
  from-same rest = pass-same front rows (changes_from Same (i + 1) (j + 1) rows) rest

  from-changed : Claim Changed (front ++ (Changed ∷ [])) (i + 1) (j + 1) rows
      → HasChanges front (Changed ∷ rows) (change Changed i j 1 ∷ changes_from Changed (i + 1) (j + 1) rows)
  from-changed rest = at-first front i j are Changed 1 (Changed ∷ rows) rows (changes_from Changed (i + 1) (j + 1) rows) refl refl rest

  in-left : Claim OnlyLeft (front ++ (OnlyLeft ∷ [])) (i + 1) (j + 0) rows → Claim OnlyLeft front i j (OnlyLeft ∷ rows)
  in-left rest =
      subst (λ (l : List Row). HasChanges l (drop (run_length OnlyLeft rows) rows) (changes_from OnlyLeft (i + 1) (j + 0) rows))
      (one-behind front OnlyLeft (replicate (run_length OnlyLeft rows) OnlyLeft)) rest

  from-left : Claim OnlyLeft (front ++ (OnlyLeft ∷ [])) (i + 1) (j + 0) rows
      → HasChanges front (OnlyLeft ∷ rows) (change OnlyLeft i j (suc (run_length OnlyLeft rows)) ∷ changes_from OnlyLeft (i + 1) (j + 0) rows)
  from-left rest =
      at-first front i j are OnlyLeft (suc (run_length OnlyLeft rows)) (OnlyLeft ∷ rows) (drop (run_length OnlyLeft rows) rows)
      (changes_from OnlyLeft (i + 1) (j + 0) rows) (ap (λ (l : List Row). OnlyLeft ∷ l) (left-run rows)) (omega arith, left-end rows) (in-left rest)

  in-right : Claim OnlyRight (front ++ (OnlyRight ∷ [])) (i + 0) (j + 1) rows → Claim OnlyRight front i j (OnlyRight ∷ rows)
  in-right rest =
      subst (λ (l : List Row). HasChanges l (drop (run_length OnlyRight rows) rows) (changes_from OnlyRight (i + 0) (j + 1) rows))
      (one-behind front OnlyRight (replicate (run_length OnlyRight rows) OnlyRight)) rest

  from-right : Claim OnlyRight (front ++ (OnlyRight ∷ [])) (i + 0) (j + 1) rows
      → HasChanges front (OnlyRight ∷ rows) (change OnlyRight i j (suc (run_length OnlyRight rows)) ∷ changes_from OnlyRight (i + 0) (j + 1) rows)
  from-right rest =
      at-first front i j are OnlyRight (suc (run_length OnlyRight rows)) (OnlyRight ∷ rows) (drop (run_length OnlyRight rows) rows)
      (changes_from OnlyRight (i + 0) (j + 1) rows) (ap (λ (l : List Row). OnlyRight ∷ l) (right-run rows)) (omega arith, right-end rows) (in-right rest)

holds : (kind : Row) (front : List Row) (i j : ℕ) (rows : List Row) → AreCounts front i j → Claim kind front i j rows
holds Same front i j [] are = refl
holds Changed front i j [] are = refl
holds OnlyLeft front i j [] are = refl
holds OnlyRight front i j [] are = refl
holds Same front i j (Same ∷ rows) are = from-same front i j are rows (holds Same (front ++ (Same ∷ [])) (i + 1) (j + 1) rows (one-more front i j Same are))
holds Same front i j (Changed ∷ rows) are = from-changed front i j are rows (holds Changed (front ++ (Changed ∷ [])) (i + 1) (j + 1) rows (one-more front i j Changed are))
holds Same front i j (OnlyLeft ∷ rows) are = from-left front i j are rows (holds OnlyLeft (front ++ (OnlyLeft ∷ [])) (i + 1) (j + 0) rows (one-more front i j OnlyLeft are))
holds Same front i j (OnlyRight ∷ rows) are = from-right front i j are rows (holds OnlyRight (front ++ (OnlyRight ∷ [])) (i + 0) (j + 1) rows (one-more front i j OnlyRight are))
holds Changed front i j (Same ∷ rows) are = from-same front i j are rows (holds Same (front ++ (Same ∷ [])) (i + 1) (j + 1) rows (one-more front i j Same are))
holds Changed front i j (Changed ∷ rows) are = from-changed front i j are rows (holds Changed (front ++ (Changed ∷ [])) (i + 1) (j + 1) rows (one-more front i j Changed are))
holds Changed front i j (OnlyLeft ∷ rows) are = from-left front i j are rows (holds OnlyLeft (front ++ (OnlyLeft ∷ [])) (i + 1) (j + 0) rows (one-more front i j OnlyLeft are))
holds Changed front i j (OnlyRight ∷ rows) are = from-right front i j are rows (holds OnlyRight (front ++ (OnlyRight ∷ [])) (i + 0) (j + 1) rows (one-more front i j OnlyRight are))
holds OnlyLeft front i j (Same ∷ rows) are = ended front (Same ∷ rows) (changes_from OnlyLeft i j (Same ∷ rows)) (from-same front i j are rows (holds Same (front ++ (Same ∷ [])) (i + 1) (j + 1) rows (one-more front i j Same are)))
holds OnlyLeft front i j (Changed ∷ rows) are = ended front (Changed ∷ rows) (changes_from OnlyLeft i j (Changed ∷ rows)) (from-changed front i j are rows (holds Changed (front ++ (Changed ∷ [])) (i + 1) (j + 1) rows (one-more front i j Changed are)))
holds OnlyLeft front i j (OnlyLeft ∷ rows) are = in-left front i j are rows (holds OnlyLeft (front ++ (OnlyLeft ∷ [])) (i + 1) (j + 0) rows (one-more front i j OnlyLeft are))
holds OnlyLeft front i j (OnlyRight ∷ rows) are = ended front (OnlyRight ∷ rows) (changes_from OnlyLeft i j (OnlyRight ∷ rows)) (from-right front i j are rows (holds OnlyRight (front ++ (OnlyRight ∷ [])) (i + 0) (j + 1) rows (one-more front i j OnlyRight are)))
holds OnlyRight front i j (Same ∷ rows) are = ended front (Same ∷ rows) (changes_from OnlyRight i j (Same ∷ rows)) (from-same front i j are rows (holds Same (front ++ (Same ∷ [])) (i + 1) (j + 1) rows (one-more front i j Same are)))
holds OnlyRight front i j (Changed ∷ rows) are = ended front (Changed ∷ rows) (changes_from OnlyRight i j (Changed ∷ rows)) (from-changed front i j are rows (holds Changed (front ++ (Changed ∷ [])) (i + 1) (j + 1) rows (one-more front i j Changed are)))
holds OnlyRight front i j (OnlyLeft ∷ rows) are = ended front (OnlyLeft ∷ rows) (changes_from OnlyRight i j (OnlyLeft ∷ rows)) (from-left front i j are rows (holds OnlyLeft (front ++ (OnlyLeft ∷ [])) (i + 1) (j + 0) rows (one-more front i j OnlyLeft are)))
holds OnlyRight front i j (OnlyRight ∷ rows) are = in-right front i j are rows (holds OnlyRight (front ++ (OnlyRight ∷ [])) (i + 0) (j + 1) rows (one-more front i j OnlyRight are))

pub changes_stand_at_their_places : ChangesStandAtTheirPlaces
changes_stand_at_their_places rows = holds Same [] 0 0 rows (record { left_is = refl; right_is = refl })
