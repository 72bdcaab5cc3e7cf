-- The hunks stand at their places.
use Rattle.std.proofs.Common.{◌≡◌, ℕ, zero, suc, ◌+◌, ◌-◌, ◌≤◌, ◌<◌, min, Bool, true, false, List, [], ◌∷◌, ◌++◌, length, take, drop, ap, sym, subst, ◌∙◌, arith, refl, inl, inr}
use Rattle.std.proofs.lemmas.Bool.{cases_lt}
use Rattle.std.proofs.lemmas.List.{length-drop}
use Rattle.std.proofs.Math.Seq.{take-suc}
use Rattle.uds_difference.specs.declared.row.Row.{Row}
use Rattle.uds_difference.specs.declared.row.Row.TheVariants.{Same, Changed, OnlyLeft, OnlyRight}
use Rattle.shown_rows.specs.Folds.{context_behind, is_shown}
use Rattle.shown_rows.specs.Hunks.{Hunk, hunk_length, hunks_behind}
use Rattle.shown_rows.specs.Laws.{AllNear, HasHunks, HunksStandAtTheirPlaces, StandsNearChange}
use Rattle.shown_rows.specs.Rows.{changes_within, left_in, right_in}
use Rattle.shown_rows.proofs.ChangePlaces.{AreCounts, one-more}
use Rattle.shown_rows.proofs.NearChanges.{Since, at-start, near-shown, one-on, row-at, shown-near}
use Rattle.shown_rows.proofs.ShownRows.{rest_by, rest_of, rest-change, rest-near, rest-none, rest-same, some-rows}

-- ---- how many rows a hunk still has, by whether the first of them is shown

rest-shown : (still_shown : ℕ) (row : Row) (rows : List Row) → still_shown ≤ 3 → is_shown still_shown (row ∷ rows) ≡ true
    → rest_of still_shown (row ∷ rows) ≡ suc (rest_of (context_behind still_shown row) rows)
rest-shown zero Same rows small shown = rest-near rows shown
rest-shown (suc still_shown) Same rows small shown = rest-same still_shown rows (changes_within (still_shown + 4) rows) (omega arith) refl
rest-shown still_shown Changed rows small shown = rest-change still_shown Changed rows (changes_within 7 rows) refl refl
rest-shown still_shown OnlyLeft rows small shown = rest-change still_shown OnlyLeft rows (changes_within 7 rows) refl refl
rest-shown still_shown OnlyRight rows small shown = rest-change still_shown OnlyRight rows (changes_within 7 rows) refl refl

-- a row that is not shown is the same, and none was still shown behind the ones before it
pub record IsFar (still_shown : ℕ) (row : Row) (rows : List Row) : Type 0 where
  pub none : still_shown ≡ 0
  pub none_behind : context_behind still_shown row ≡ 0
  pub rest : rest_of still_shown (row ∷ rows) ≡ 0
  pub far : changes_within 4 (row ∷ rows) ≡ false

pub is-far : (still_shown : ℕ) (row : Row) (rows : List Row) → is_shown still_shown (row ∷ rows) ≡ false → IsFar still_shown row rows
is-far zero Same rows not = record {
  none = refl;
  none_behind = refl;
  rest = ap (λ (b : Bool). rest_by b 0 (Same ∷ rows)) not ∙ none (length (Same ∷ rows));
  far = not;
}
  where
    none : (n : ℕ) → min 0 n ≡ 0
    none n = omega arith
is-far (suc still_shown) Same rows not = absurd (cc not)
is-far zero Changed rows not = absurd (cc not)
is-far (suc still_shown) Changed rows not = absurd (cc not)
is-far zero OnlyLeft rows not = absurd (cc not)
is-far (suc still_shown) OnlyLeft rows not = absurd (cc not)
is-far zero OnlyRight rows not = absurd (cc not)
is-far (suc still_shown) OnlyRight rows not = absurd (cc not)

few-behind : (still_shown : ℕ) (row : Row) → still_shown ≤ 3 → context_behind still_shown row ≤ 3
few-behind zero Same small = omega arith
few-behind (suc still_shown) Same small = omega arith
few-behind still_shown Changed small = omega arith
few-behind still_shown OnlyLeft small = omega arith
few-behind still_shown OnlyRight small = omega arith

-- ---- what holds from a row on, where a hunk still has so many

record Reaches (all : List Row) (place count left right : ℕ) (rows : List Row) : Type 0 where
  fits : place + count ≤ length all
  near : AllNear all place (place + count)
  whole : place + count < length all → StandsNearChange all (place + count) → ⊥
  later : HasHunks all (place + count) (hunks_behind count left right rows)

-- behind all rows
no-rows : (all : List Row) (place left right : ℕ) → place ≡ length all → Reaches all place 0 left right []
no-rows all place left right is = record {
  fits = omega arith;
  near = λ k from below. absurd (omega arith);
  whole = λ below near. absurd (omega arith);
  later = λ k from below near. absurd (omega arith);
}

-- one row more, which is shown
one-near : (all : List Row) (place count left right : ℕ) (row : Row) (rows : List Row) → StandsNearChange all place
    → Reaches all (place + 1) count (left + left_in row) (right + right_in row) rows → Reaches all place (suc count) left right (row ∷ rows)
one-near all place count left right row rows here next =
    let sum : place + 1 + count ≡ place + suc count = omega arith in
    let fits = next.fits in
    record {
      fits = omega arith;
      near = λ k from below. elim (cases_lt k (place + 1)) [
        | inl first ↦ let is : place ≡ k = omega arith in subst (StandsNearChange all) is here
        | inr behind ↦ next.near k behind (omega arith)
      ];
      whole = λ below near. next.whole (omega arith) (subst (StandsNearChange all) (sym sum) near);
      later = subst (λ (n : ℕ). HasHunks all n (hunks_behind count (left + left_in row) (right + right_in row) rows)) sum next.later;
    }

-- the hunks from a place on, where none reaches it
earlier : (all : List Row) (place : ℕ) (later : List Hunk) → (StandsNearChange all place → ⊥) → HasHunks all (place + 1) later → HasHunks all place later
earlier all place [] far none = λ k from below. elim (cases_lt k (place + 1)) [
  | inl first ↦ (let is : k ≡ place = omega arith in λ near. far (subst (StandsNearChange all) is near))
  | inr behind ↦ none k behind below
]
earlier all place (here ∷ later) far has = (
  has.0,
  has.1,
  omega (arith, has.2),
  (λ k from below. elim (cases_lt k (place + 1)) [
    | inl first ↦ (let is : k ≡ place = omega arith in λ near. far (subst (StandsNearChange all) is near))
    | inr behind ↦ has.3 k behind below
  ]),
  has.4,
  has.5,
)

module _ (all : List Row) (place left right : ℕ) where
  -- the hunk that begins with a row
  begins : (count : ℕ) (row : Row) (rows : List Row) → drop place all ≡ row ∷ rows → AreCounts (take place all) left right → 0 < count
      → Reaches all place count left right (row ∷ rows)
      → HasHunks all place (record { left = left; right = right; rows = take count (row ∷ rows) }
      ∷ hunks_behind (count - 1) (left + left_in row) (right + right_in row) rows)
  begins zero row rows is are some reaches = absurd (omega arith)
  begins (suc count) row rows is are some reaches =
      let long : suc count ≡ place + suc count - place = omega arith in
      let less : count ≡ suc count - 1 = omega arith in (
        place,
        place + suc count,
        omega arith,
        (λ k from below near. omega arith),
        record {
          rows_are = ap (take (suc count)) (sym is) ∙ ap (λ (n : ℕ). take n (drop place all)) long;
          some = omega arith;
          inside = reaches.fits;
          left = are.left_is;
          right = are.right_is;
          near = reaches.near;
          whole = reaches.whole;
        },
        subst (λ (n : ℕ). HasHunks all (place + suc count) (hunks_behind n (left + left_in row) (right + right_in row) rows)) less reaches.later,
      )

  -- in front of a hunk, or where none is
  in-front : (rows : List Row) → drop place all ≡ rows → AreCounts (take place all) left right → Reaches all place (rest_of 0 rows) left right rows
      → HasHunks all place (hunks_behind 0 left right rows)
  in-front [] is are reaches =
      let long = ap length is in
      let rest = length-drop place all in
      λ k from below near. omega arith
  in-front (row ∷ rows) is are reaches = by (changes_within 4 (row ∷ rows)) refl
    where
      by : (near : Bool) → changes_within 4 (row ∷ rows) ≡ near → HasHunks all place (hunks_behind 0 left right (row ∷ rows))
      by true e =
          let first : hunks_behind 0 left right (row ∷ rows) ≡ record { left = left; right = right; rows = take (hunk_length (row ∷ rows)) (row ∷ rows) }
          ∷ hunks_behind (hunk_length (row ∷ rows) - 1) (left + left_in row) (right + right_in row) rows = rw e refl in
          let rest = subst (λ (b : Bool). Reaches all place (rest_by b 0 (row ∷ rows)) left right (row ∷ rows)) e reaches in
          subst (HasHunks all place) (sym first)
          (begins (hunk_length (row ∷ rows)) row rows is are (some-rows row rows (changes_within 7 rows) refl) rest)
      by false e =
          let none : min 0 (length (row ∷ rows)) ≡ 0 = omega arith in
          let rest = subst (λ (b : Bool). Reaches all place (rest_by b 0 (row ∷ rows)) left right (row ∷ rows)) e reaches in
          let here = (subst (λ (n : ℕ). Reaches all place n left right (row ∷ rows)) none rest).later in
          let sum : place + 0 ≡ place = omega arith in
          subst (λ (n : ℕ). HasHunks all n (hunks_behind 0 left right (row ∷ rows))) sum here

  -- a row that is not shown
  one-far : (row : Row) (rows : List Row) → drop place all ≡ row ∷ rows → changes_within 4 (row ∷ rows) ≡ false → (StandsNearChange all place → ⊥)
      → HasHunks all (place + 1) (hunks_behind 0 (left + left_in row) (right + right_in row) rows) → Reaches all place 0 left right (row ∷ rows)
  one-far row rows is e far later =
      let here = row-at all place row rows is in
      let inside = here.inside in
      let sum : place ≡ place + 0 = omega arith in
      let first : hunks_behind 0 left right (row ∷ rows) ≡ hunks_behind 0 (left + left_in row) (right + right_in row) rows = rw e refl in
      record {
        fits = omega arith;
        near = λ k from below. absurd (omega arith);
        whole = λ below near. far (subst (StandsNearChange all) (sym sum) near);
        later = subst (λ (n : ℕ). HasHunks all n (hunks_behind 0 left right (row ∷ rows))) sum
            (subst (HasHunks all place) (sym first) (earlier all place _ far later));
      }

-- the items of both sessions in front of the next row
counts-on : (all : List Row) (place left right : ℕ) (row : Row) (rows : List Row) → drop place all ≡ row ∷ rows → AreCounts (take place all) left right
    → AreCounts (take (place + 1) all) (left + left_in row) (right + right_in row)
counts-on all place left right row rows is are =
    let here = row-at all place row rows is in
    let next : place + 1 ≡ suc place = omega arith in
    let more = ap (λ (n : ℕ). take n all) next ∙ take-suc all place Same here.inside ∙ ap (λ (r : Row). take place all ++ (r ∷ [])) here.row_is in
    subst (λ (l : List Row). AreCounts l (left + left_in row) (right + right_in row)) (sym more) (one-more (take place all) left right row are)

reach-row : (all : List Row) (place still_shown left right : ℕ) (row : Row) (rows : List Row) → still_shown ≤ 3 → drop place all ≡ row ∷ rows → Since all place still_shown
    → AreCounts (take place all) left right
    → Reaches all (place + 1) (rest_of (context_behind still_shown row) rows) (left + left_in row) (right + right_in row) rows
    → Reaches all place (rest_of still_shown (row ∷ rows)) left right (row ∷ rows)
reach-row all place still_shown left right row rows small is since are next = by (is_shown still_shown (row ∷ rows)) refl
  where
    by : (shown : Bool) → is_shown still_shown (row ∷ rows) ≡ shown → Reaches all place (rest_of still_shown (row ∷ rows)) left right (row ∷ rows)
    by true e =
        subst (λ (n : ℕ). Reaches all place n left right (row ∷ rows)) (sym (rest-shown still_shown row rows small e))
        (one-near all place (rest_of (context_behind still_shown row) rows) left right row rows (shown-near all place (row ∷ rows) is still_shown since e) next)
    by false e =
        let far = is-far still_shown row rows e in
        let here = row-at all place row rows is in
        let behind = subst (λ (n : ℕ). Reaches all (place + 1) (rest_of n rows) (left + left_in row) (right + right_in row) rows) far.none_behind next in
        subst (λ (n : ℕ). Reaches all place n left right (row ∷ rows)) (sym far.rest)
        (one-far all place left right row rows is far.far (λ near. cc (sym (near-shown all place (row ∷ rows) is still_shown since near) ∙ e))
        (in-front all (place + 1) (left + left_in row) (right + right_in row) rows here.next (counts-on all place left right row rows is are) behind))

reach : (rows all : List Row) (place still_shown left right : ℕ) → still_shown ≤ 3 → place ≤ length all → drop place all ≡ rows → Since all place still_shown
    → AreCounts (take place all) left right → Reaches all place (rest_of still_shown rows) left right rows
reach [] all place still_shown left right small within is since are =
    let long = ap length is in
    let rest = length-drop place all in
    subst (λ (n : ℕ). Reaches all place n left right []) (sym (rest-none still_shown)) (no-rows all place left right (omega arith))
reach (row ∷ rows) all place still_shown left right small within is since are =
    let here = row-at all place row rows is in
    let inside = here.inside in
    reach-row all place still_shown left right row rows small is since are
    (reach rows all (place + 1) (context_behind still_shown row) (left + left_in row) (right + right_in row) (few-behind still_shown row small) (omega arith)
    here.next (one-on all place still_shown row here.row_is since) (counts-on all place left right row rows is are))

pub hunks_stand_at_their_places : HunksStandAtTheirPlaces
hunks_stand_at_their_places rows =
    let none : AreCounts (take 0 rows) 0 0 = record { left_is = refl; right_is = refl } in
    in-front rows 0 0 0 rows refl none (reach rows rows 0 0 0 0 (omega arith) (omega arith) refl (at-start rows) none)
