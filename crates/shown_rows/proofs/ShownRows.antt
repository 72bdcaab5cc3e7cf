-- What a page shows unfolded is what the hunks of a text have.
use Rattle.std.proofs.Common.{◌≡◌, ℕ, zero, suc, ◌+◌, ◌-◌, ◌≤◌, ◌<◌, min, Bool, true, false, List, [], ◌∷◌, ◌++◌, length, take, ap, sym, ◌∙◌, arith, refl}
use Rattle.std.specs.List.{flat_map}
use Rattle.uds_difference.specs.declared.row.Row.{Row}
use Rattle.uds_difference.specs.declared.row.Row.TheVariants.{Same, Changed, OnlyLeft, OnlyRight}
use Rattle.shown_rows.specs.Hunks.{hunk_length, hunks_behind, rows_to_last_change}
use Rattle.shown_rows.specs.Laws.{RowAt, ShownRowsStandInHunks, places_of_hunk, row_at, rows_at, shown_at}
use Rattle.shown_rows.specs.Rows.{changes_within, is_change, left_in, right_in}
use Rattle.shown_rows.proofs.RowSteps.{none-within}

-- the rows of the hunks that are left, of which so many rows belong to one in front of them
abbrev pub flat : ℕ → ℕ → ℕ → List Row → List RowAt
flat count i j rows = flat_map places_of_hunk (hunks_behind count i j rows)

-- how many rows a hunk still has, where so many of the next are shown for a change before them, by whether another change is
-- near
abbrev pub rest_by : Bool → ℕ → List Row → ℕ
rest_by true still_shown rows = hunk_length rows
rest_by false still_shown rows = min still_shown (length rows)

abbrev pub rest_of : ℕ → List Row → ℕ
rest_of still_shown rows = rest_by (changes_within (still_shown + 4) rows) still_shown rows

-- a change that is near is near for a longer look
nearer : (m n : ℕ) (rows : List Row) → m ≤ n → changes_within m rows ≡ true → changes_within n rows ≡ true
nearer zero n rows h near = absurd cc
nearer (suc m) zero rows h near = absurd (omega arith)
nearer (suc m) (suc n) [] h near = absurd cc
nearer (suc m) (suc n) (Same ∷ rows) h near = nearer m n rows (omega arith) near
nearer (suc m) (suc n) (Changed ∷ rows) h near = refl
nearer (suc m) (suc n) (OnlyLeft ∷ rows) h near = refl
nearer (suc m) (suc n) (OnlyRight ∷ rows) h near = refl

-- how long a hunk is, by whether it has another change
last-more : (row : Row) (rows : List Row) → changes_within 7 rows ≡ true → rows_to_last_change (row ∷ rows) ≡ suc (rows_to_last_change rows)
last-more row rows near = rw near refl

last-here : (row : Row) (rows : List Row) → changes_within 7 rows ≡ false → rows_to_last_change (row ∷ rows) ≡ 1
last-here row rows far = rw far refl

length-more : (row : Row) (rows : List Row) → changes_within 7 rows ≡ true → hunk_length (row ∷ rows) ≡ suc (hunk_length rows)
length-more row rows near =
    let last = last-more row rows near in
    let long : length (row ∷ rows) ≡ suc (length rows) = refl in
    omega arith

length-last : (row : Row) (rows : List Row) → changes_within 7 rows ≡ false → hunk_length (row ∷ rows) ≡ suc (min 3 (length rows))
length-last row rows far =
    let last = last-here row rows far in
    let long : length (row ∷ rows) ≡ suc (length rows) = refl in
    omega arith

-- what the law says of the rows from one on, in a hunk or in front of the next
abbrev pub InHunk : ℕ → ℕ → ℕ → List Row → Type 0
InHunk still_shown i j rows = rows_at i j (take (rest_of still_shown rows) rows) ++ flat (rest_of still_shown rows) i j rows ≡ shown_at still_shown i j rows

-- one more row in front, which is shown
one-shown : (still_shown next i j : ℕ) (row : Row) (rows : List Row) → rest_of still_shown (row ∷ rows) ≡ suc (rest_of next rows)
    → shown_at still_shown i j (row ∷ rows) ≡ row_at row i j ∷ shown_at next (i + left_in row) (j + right_in row) rows
    → InHunk next (i + left_in row) (j + right_in row) rows → InHunk still_shown i j (row ∷ rows)
one-shown still_shown next i j row rows more is rest =
    ap (λ (n : ℕ). rows_at i j (take n (row ∷ rows)) ++ flat n i j (row ∷ rows)) more ∙ ap (λ (l : List RowAt). row_at row i j ∷ l) rest ∙ sym is

-- a change
shown-change : (still_shown i j : ℕ) (row : Row) (rows : List Row) → is_change row ≡ true
    → shown_at still_shown i j (row ∷ rows) ≡ row_at row i j ∷ shown_at 3 (i + left_in row) (j + right_in row) rows
shown-change zero i j row rows is = rw is refl
shown-change (suc still_shown) i j row rows is = rw is refl

near-change : (count : ℕ) (row : Row) (rows : List Row) → is_change row ≡ true → changes_within (suc count) (row ∷ rows) ≡ true
near-change count row rows is = rw is refl

pub rest-change : (still_shown : ℕ) (row : Row) (rows : List Row) (near : Bool) → changes_within 7 rows ≡ near → is_change row ≡ true
    → rest_of still_shown (row ∷ rows) ≡ suc (rest_of 3 rows)
rest-change still_shown row rows near e is =
    let four : still_shown + 4 ≡ suc (still_shown + 3) = omega arith in
    let here : changes_within (still_shown + 4) (row ∷ rows) ≡ true = ap (λ (n : ℕ). changes_within n (row ∷ rows)) four ∙ near-change (still_shown + 3) row rows is in
    ap (λ (b : Bool). rest_by b still_shown (row ∷ rows)) here ∙ behind near e
  where
    behind : (near : Bool) → changes_within 7 rows ≡ near → hunk_length (row ∷ rows) ≡ suc (rest_of 3 rows)
    behind true e = length-more row rows e ∙ ap (λ (b : Bool). suc (rest_by b 3 rows)) (sym e)
    behind false e = length-last row rows e ∙ ap (λ (b : Bool). suc (rest_by b 3 rows)) (sym e)

-- a row that is the same, behind a change
pub rest-same : (still_shown : ℕ) (rows : List Row) (near : Bool) → still_shown ≤ 2 → changes_within (still_shown + 4) rows ≡ near
    → rest_of (suc still_shown) (Same ∷ rows) ≡ suc (rest_of still_shown rows)
rest-same still_shown rows true small e =
    let four : suc still_shown + 4 ≡ suc (still_shown + 4) = omega arith in
    ap (λ (n : ℕ). rest_by (changes_within n (Same ∷ rows)) (suc still_shown) (Same ∷ rows)) four
    ∙ ap (λ (b : Bool). rest_by b (suc still_shown) (Same ∷ rows)) e
    ∙ length-more Same rows (nearer (still_shown + 4) 7 rows (omega arith) e)
    ∙ ap (λ (b : Bool). suc (rest_by b still_shown rows)) (sym e)
rest-same still_shown rows false small e =
    let four : suc still_shown + 4 ≡ suc (still_shown + 4) = omega arith in
    let fewer : min (suc still_shown) (length (Same ∷ rows)) ≡ suc (min still_shown (length rows)) = omega arith in
    ap (λ (n : ℕ). rest_by (changes_within n (Same ∷ rows)) (suc still_shown) (Same ∷ rows)) four
    ∙ ap (λ (b : Bool). rest_by b (suc still_shown) (Same ∷ rows)) e
    ∙ fewer
    ∙ ap (λ (b : Bool). suc (rest_by b still_shown rows)) (sym e)

-- a row that is the same, with a change among the three behind it
pub rest-near : (rows : List Row) → changes_within 3 rows ≡ true → rest_of 0 (Same ∷ rows) ≡ suc (rest_of 0 rows)
rest-near rows near =
    ap (λ (b : Bool). rest_by b 0 (Same ∷ rows)) near
    ∙ length-more Same rows (nearer 3 7 rows (omega arith) near)
    ∙ ap (λ (b : Bool). suc (rest_by b 0 rows)) (sym (nearer 3 4 rows (omega arith) near))

shown-near : (i j : ℕ) (rows : List Row) → changes_within 3 rows ≡ true → shown_at 0 i j (Same ∷ rows) ≡ row_at Same i j ∷ shown_at 0 (i + 1) (j + 1) rows
shown-near i j rows near = rw near refl

-- one row less in a hunk
one-less : (count i j : ℕ) (row : Row) (rows : List Row) → 0 < count → flat count i j (row ∷ rows) ≡ flat (count - 1) (i + left_in row) (j + right_in row) rows
one-less zero i j row rows some = absurd (omega arith)
one-less (suc count) i j row rows some =
    let less : count ≡ suc count - 1 = omega arith in
    ap (λ (n : ℕ). flat n (i + left_in row) (j + right_in row) rows) less

pub some-rows : (row : Row) (rows : List Row) (near : Bool) → changes_within 7 rows ≡ near → 0 < hunk_length (row ∷ rows)
some-rows row rows true e = let more = length-more row rows e in omega arith
some-rows row rows false e = let more = length-last row rows e in omega arith

-- in front of the next hunk
in-front : (i j : ℕ) (rows : List Row) → InHunk 0 i j rows → flat 0 i j rows ≡ shown_at 0 i j rows
in-front i j [] rest = refl
in-front i j (row ∷ rows) rest = by (changes_within 4 (row ∷ rows)) refl
  where
    by : (near : Bool) → changes_within 4 (row ∷ rows) ≡ near → flat 0 i j (row ∷ rows) ≡ shown_at 0 i j (row ∷ rows)
    by true e =
        let begins : flat 0 i j (row ∷ rows) ≡ rows_at i j (take (hunk_length (row ∷ rows)) (row ∷ rows)) ++ flat (hunk_length (row ∷ rows) - 1) (i + left_in row) (j + right_in row) rows = rw e refl in
        begins
        ∙ ap (λ (l : List RowAt). rows_at i j (take (hunk_length (row ∷ rows)) (row ∷ rows)) ++ l) (sym (one-less (hunk_length (row ∷ rows)) i j row rows (some-rows row rows (changes_within 7 rows) refl)))
        ∙ ap (λ (b : Bool). rows_at i j (take (rest_by b 0 (row ∷ rows)) (row ∷ rows)) ++ flat (rest_by b 0 (row ∷ rows)) i j (row ∷ rows)) (sym e)
        ∙ rest
    by false e =
        let none : 0 ≡ min 0 (length (row ∷ rows)) = omega arith in
        ap (λ (n : ℕ). rows_at i j (take n (row ∷ rows)) ++ flat n i j (row ∷ rows)) none
        ∙ ap (λ (b : Bool). rows_at i j (take (rest_by b 0 (row ∷ rows)) (row ∷ rows)) ++ flat (rest_by b 0 (row ∷ rows)) i j (row ∷ rows)) (sym e)
        ∙ rest

far-flat : (i j : ℕ) (rows : List Row) → changes_within 3 rows ≡ false → flat 0 i j (Same ∷ rows) ≡ flat 0 (i + 1) (j + 1) rows
far-flat i j rows far = rw far refl

far-shown : (i j : ℕ) (rows : List Row) → changes_within 3 rows ≡ false → shown_at 0 i j (Same ∷ rows) ≡ shown_at 0 (i + 1) (j + 1) rows
far-shown i j rows far = rw far refl

-- a row that is the same, where no change is near
one-folded : (i j : ℕ) (rows : List Row) → changes_within 3 rows ≡ false → InHunk 0 (i + 1) (j + 1) rows → InHunk 0 i j (Same ∷ rows)
one-folded i j rows far rest =
    let none : min 0 (length (Same ∷ rows)) ≡ 0 = omega arith in
    ap (λ (b : Bool). rows_at i j (take (rest_by b 0 (Same ∷ rows)) (Same ∷ rows)) ++ flat (rest_by b 0 (Same ∷ rows)) i j (Same ∷ rows)) far
    ∙ ap (λ (n : ℕ). rows_at i j (take n (Same ∷ rows)) ++ flat n i j (Same ∷ rows)) none
    ∙ far-flat i j rows far ∙ in-front (i + 1) (j + 1) rows rest ∙ sym (far-shown i j rows far)

one-same : (i j : ℕ) (rows : List Row) (near : Bool) → changes_within 3 rows ≡ near → InHunk 0 (i + 1) (j + 1) rows → InHunk 0 i j (Same ∷ rows)
one-same i j rows true e rest = one-shown 0 0 i j Same rows (rest-near rows e) (shown-near i j rows e) rest
one-same i j rows false e rest = one-folded i j rows e rest

pub rest-none : (still_shown : ℕ) → rest_of still_shown [] ≡ 0
rest-none still_shown =
    let few : min still_shown (length {A = Row} []) ≡ 0 = omega arith in
    ap (λ (b : Bool). rest_by b still_shown []) (none-within (still_shown + 4)) ∙ few

in-hunk : (rows : List Row) (still_shown i j : ℕ) → still_shown ≤ 3 → InHunk still_shown i j rows
in-hunk [] still_shown i j small = ap (λ (n : ℕ). rows_at i j (take n []) ++ flat n i j []) (rest-none still_shown)
in-hunk (Same ∷ rows) zero i j small = one-same i j rows (changes_within 3 rows) refl (in-hunk rows 0 (i + 1) (j + 1) (omega arith))
in-hunk (Same ∷ rows) (suc still_shown) i j small =
    one-shown (suc still_shown) still_shown i j Same rows (rest-same still_shown rows (changes_within (still_shown + 4) rows) (omega arith) refl) refl
    (in-hunk rows still_shown (i + 1) (j + 1) (omega arith))
in-hunk (Changed ∷ rows) still_shown i j small =
    one-shown still_shown 3 i j Changed rows (rest-change still_shown Changed rows (changes_within 7 rows) refl refl) (shown-change still_shown i j Changed rows refl)
    (in-hunk rows 3 (i + 1) (j + 1) (omega arith))
in-hunk (OnlyLeft ∷ rows) still_shown i j small =
    one-shown still_shown 3 i j OnlyLeft rows (rest-change still_shown OnlyLeft rows (changes_within 7 rows) refl refl) (shown-change still_shown i j OnlyLeft rows refl)
    (in-hunk rows 3 (i + 1) (j + 0) (omega arith))
in-hunk (OnlyRight ∷ rows) still_shown i j small =
    one-shown still_shown 3 i j OnlyRight rows (rest-change still_shown OnlyRight rows (changes_within 7 rows) refl refl) (shown-change still_shown i j OnlyRight rows refl)
    (in-hunk rows 3 (i + 0) (j + 1) (omega arith))

pub shown_rows_stand_in_hunks : ShownRowsStandInHunks
shown_rows_stand_in_hunks rows = sym (in-front 0 0 rows (in-hunk rows 0 0 0 (omega arith)))
