-- A row is shown exactly where it stands near a change.
use Rattle.std.proofs.Common.{◌≡◌, ℕ, zero, suc, ◌+◌, ◌-◌, ◌≤◌, ◌<◌, Bool, true, false, List, [], ◌∷◌, ◌++◌, length, drop, get_or, ap, sym, subst, ◌∙◌, arith, refl, inl, inr}
use Rattle.std.proofs.lemmas.Bool.{cases_lt}
use Rattle.std.proofs.lemmas.List.{drop_more, get_or-drop, length-drop}
use Rattle.uds_difference.specs.declared.row.Row.{Row}
use Rattle.uds_difference.specs.declared.row.Row.TheVariants.{Same, Changed, OnlyLeft, OnlyRight}
use Rattle.shown_rows.specs.Folds.{context_behind, is_shown, one_less}
use Rattle.shown_rows.specs.Laws.{ChangesAt, ShownRowsStandNearChanges, StandsNearChange, still_shown_behind}
use Rattle.shown_rows.specs.Rows.{changes_within, is_change}

-- ---- the row at a place

pub record IsRowAt (all : List Row) (place : ℕ) (row : Row) (later : List Row) : Type 0 where
  pub inside : place < length all
  pub row_is : get_or all place Same ≡ row
  pub next : drop (place + 1) all ≡ later

pub row-at : (all : List Row) (place : ℕ) (row : Row) (later : List Row) → drop place all ≡ row ∷ later → IsRowAt all place row later
row-at all place row later is =
    let long = ap length is in
    let rest = length-drop place all in
    let inside : place < length all = omega arith in
    let both = sym (drop_more all place Same inside) ∙ is in
    record { inside = inside; row_is = ap (λ (l : List Row). get_or l 0 Same) both; next = ap (drop 1) both }

pub shifted : (all : List Row) (place k : ℕ) (rows : List Row) → drop place all ≡ rows → get_or rows k Same ≡ get_or all (place + k) Same
shifted all place k rows is = ap (λ (l : List Row). get_or l k Same) (sym is) ∙ get_or-drop place all k Same

-- ---- a change among the first so many rows

pub found-in : (count : ℕ) (rows : List Row) → changes_within count rows ≡ true → (k : ℕ) × (k < count) × ChangesAt rows k
found-in zero rows is = absurd (cc is)
found-in (suc count) [] is = absurd (cc is)
found-in (suc count) (Same ∷ rows) is = let behind = found-in count rows is in (suc behind.0, omega (arith, behind.1), behind.2)
found-in (suc count) (Changed ∷ rows) is = (0, omega arith, refl)
found-in (suc count) (OnlyLeft ∷ rows) is = (0, omega arith, refl)
found-in (suc count) (OnlyRight ∷ rows) is = (0, omega arith, refl)

pub is-found : (count : ℕ) (rows : List Row) (k : ℕ) → k < count → ChangesAt rows k → changes_within count rows ≡ true
is-found zero rows k below at = absurd (omega arith)
is-found (suc count) [] zero below at = absurd (cc at)
is-found (suc count) [] (suc k) below at = absurd (cc at)
is-found (suc count) (Same ∷ rows) zero below at = absurd (cc at)
is-found (suc count) (Same ∷ rows) (suc k) below at = is-found count rows k (omega arith) at
is-found (suc count) (Changed ∷ rows) k below at = refl
is-found (suc count) (OnlyLeft ∷ rows) k below at = refl
is-found (suc count) (OnlyRight ∷ rows) k below at = refl

-- ---- how many rows are still shown at a place

-- they are those within three behind the latest change
pub record Since (all : List Row) (place still_shown : ℕ) : Type 0 where
  pub latest : 0 < still_shown → (other : ℕ) × ChangesAt all other × (other < place) × (other + 4 ≡ place + still_shown)
  pub most : (other : ℕ) → ChangesAt all other → other < place → other + 4 ≤ place + still_shown

pub at-start : (all : List Row) → Since all 0 0
at-start all = record { latest = λ some. absurd (omega arith); most = λ other at below. absurd (omega arith) }

one-less-is : (still_shown : ℕ) → one_less still_shown ≡ still_shown - 1
one-less-is zero = omega arith
one-less-is (suc still_shown) = omega arith

behind-change : (still_shown : ℕ) (row : Row) → is_change row ≡ true → context_behind still_shown row ≡ 3
behind-change still_shown row is = rw is refl

behind-same : (still_shown : ℕ) (row : Row) → is_change row ≡ false → context_behind still_shown row ≡ still_shown - 1
behind-same still_shown row is = let less = one-less-is still_shown in rw is less

module _ (all : List Row) (place still_shown : ℕ) (row : Row) (row_is : get_or all place Same ≡ row) (since : Since all place still_shown) where
  since-change : is_change row ≡ true → Since all (place + 1) (context_behind still_shown row)
  since-change is =
      let three = behind-change still_shown row is in
      record { latest = λ some. (place, ap is_change row_is ∙ is, omega arith, omega arith); most = λ other at below. omega arith }

  since-same : is_change row ≡ false → Since all (place + 1) (context_behind still_shown row)
  since-same is =
      let less = behind-same still_shown row is in
      record {
        latest = λ some. (let before = since.latest (omega arith) in (before.0, before.1, omega (arith, before.2), omega (arith, before.3)));
        most = λ other at below. elim (cases_lt other place) [
          | inl earlier ↦ let most = since.most other at earlier in omega arith
          | inr later ↦
              let here : other ≡ place = omega arith in
              absurd (cc (sym at ∙ ap (λ (n : ℕ). is_change (get_or all n Same)) here ∙ ap is_change row_is ∙ is))
        ];
      }

  pub one-on : Since all (place + 1) (context_behind still_shown row)
  one-on = by (is_change row) refl
    where
      by : (change : Bool) → is_change row ≡ change → Since all (place + 1) (context_behind still_shown row)
      by true is = since-change is
      by false is = since-same is

-- behind several rows
since-behind : (all : List Row) (place still_shown : ℕ) (front later : List Row) → drop place all ≡ front ++ later → Since all place still_shown
    → Since all (place + length front) (still_shown_behind still_shown front)
since-behind all place still_shown [] later is since =
    let none : place ≡ place + length {A = Row} [] = omega arith in
    subst (λ (n : ℕ). Since all n still_shown) none since
since-behind all place still_shown (row ∷ front) later is since =
    let here = row-at all place row (front ++ later) is in
    let sum : place + 1 + length front ≡ place + length (row ∷ front) = omega arith in
    subst (λ (n : ℕ). Since all n (still_shown_behind (context_behind still_shown row) front)) sum
    (since-behind all (place + 1) (context_behind still_shown row) front later here.next (one-on all place still_shown row here.row_is since))

-- ---- what is shown

module _ (all : List Row) (place : ℕ) (rows : List Row) (is : drop place all ≡ rows) where
  pub shown-near : (still_shown : ℕ) → Since all place still_shown → is_shown still_shown rows ≡ true → StandsNearChange all place
  shown-near zero since shown =
      let found = found-in 4 rows shown in
      (place + found.0, ap is_change (sym (shifted all place found.0 rows is)) ∙ found.2, omega (arith, found.1), omega arith)
  shown-near (suc still_shown) since shown =
      let before = since.latest (omega arith) in
      (before.0, before.1, omega (arith, before.2), omega (arith, before.3))

  pub near-shown : (still_shown : ℕ) → Since all place still_shown → StandsNearChange all place → is_shown still_shown rows ≡ true
  near-shown zero since near = elim (cases_lt near.0 place) [
    | inl before ↦ let far = since.most near.0 near.1 before in absurd (omega (arith, near.3))
    | inr behind ↦
        let sum : place + (near.0 - place) ≡ near.0 = omega arith in
        is-found 4 rows (near.0 - place) (omega (arith, near.2))
        (ap is_change (shifted all place (near.0 - place) rows is) ∙ ap (λ (n : ℕ). is_change (get_or all n Same)) sum ∙ near.1)
  ]
  near-shown (suc still_shown) since near = refl

pub drop-front : (front later : List Row) → drop (length front) (front ++ later) ≡ later
drop-front [] later = refl
drop-front (row ∷ front) later = drop-front front later

pub since-all : (front later : List Row) → Since (front ++ later) (length front) (still_shown_behind 0 front)
since-all front later =
    let none : 0 + length front ≡ length front = omega arith in
    subst (λ (n : ℕ). Since (front ++ later) n (still_shown_behind 0 front)) none (since-behind (front ++ later) 0 0 front later refl (at-start (front ++ later)))

pub shown_rows_stand_near_changes : ShownRowsStandNearChanges
shown_rows_stand_near_changes front row later = (
  shown-near (front ++ (row ∷ later)) (length front) (row ∷ later) (drop-front front (row ∷ later)) (still_shown_behind 0 front) (since-all front (row ∷ later)),
  near-shown (front ++ (row ∷ later)) (length front) (row ∷ later) (drop-front front (row ∷ later)) (still_shown_behind 0 front) (since-all front (row ∷ later)),
)
