-- Hunks lead from the left list to the right one.
use Rattle.std.proofs.Common.{◌≡◌, ℕ, zero, suc, ◌+◌, ◌*◌, ◌-◌, ◌≤◌, ◌<◌, Bool, false, ◌||◌, List, [], ◌∷◌, ◌++◌, length, take, drop, map, ap, ap₂, subst, sym, ◌∙◌, arith, refl, inl, inr, Some, Option}
use Rattle.std.specs.Prelude.{slice_get}
use Rattle.text_parts.specs.Parts.{text_if_some}
use Rattle.std.proofs.Math.Seq.{drop-nil}
use Rattle.std.proofs.lemmas.Bool.{cases_Bool}
use Rattle.std.proofs.lemmas.List.{length-drop, take-append-drop}
use Rattle.uds_exchange.specs.Meaning.{ItemValue}
use Rattle.uds_difference.specs.Rows.{AreBeside, rows_of}
use Rattle.uds_difference.specs.declared.row.Row.{Row}
use Rattle.uds_difference.specs.declared.row.Row.TheVariants.{Same, Changed, OnlyLeft, OnlyRight}
use Rattle.uds_difference.proofs.Promises.{rows_are_beside}
use Rattle.shown_rows.specs.Hunks.{Hunk, begins_hunk, hunk_length, hunks_behind, rows_to_last_change}
use Rattle.shown_rows.specs.Rows.{changes_within, context, is_change, left_count, left_in, right_count, right_in}
use Rattle.uds_rules.specs.Rule.{RuleValue}
use Rattle.trace_difference.specs.Laws.{HunksLeadToTheRight, Leads, new_lines, old_lines}
use Rattle.trace_difference.specs.Lines.{Line, added, behind_removed, kept, line_at, lines_of, listed, removed}

-- ---- what is left of a list behind a place

first-there : {X : Type 0} (xs : List X) (i : ℕ) (x : X) (us : List X) → drop i xs ≡ x ∷ us → slice_get xs i ≡ Some x
first-there {X = X} (y ∷ ys) zero x us e = ap (λ (l : List X). slice_get l 0) e
first-there (y ∷ ys) (suc i) x us e = first-there ys i x us e
first-there [] zero x us e = absurd cc
first-there [] (suc i) x us e = absurd cc

drop-next : {X : Type 0} (xs : List X) (i : ℕ) (x : X) (us : List X) → drop i xs ≡ x ∷ us → drop (i + 1) xs ≡ us
drop-next (y ∷ ys) zero x us e = ap (drop 1) e
drop-next (y ∷ ys) (suc i) x us e =
    let next : suc i + 1 ≡ suc (i + 1) = omega arith in
    rw next (drop-next ys i x us e)
drop-next [] zero x us e = absurd cc
drop-next [] (suc i) x us e = absurd cc

drop-on : {X : Type 0} (xs : List X) (i n : ℕ) → drop (i + n) xs ≡ drop n (drop i xs)
drop-on xs zero n = let e : 0 + n ≡ n = omega arith in rw e refl
drop-on [] (suc i) n = drop-nil (suc i + n) ∙ sym (drop-nil n)
drop-on (x ∷ xs) (suc i) n = let e : suc i + n ≡ suc (i + n) = omega arith in rw e (drop-on xs i n)

drop-one : {X : Type 0} (x : X) (xs : List X) (n : ℕ) → drop (1 + n) (x ∷ xs) ≡ drop n xs
drop-one x xs n = let e : 1 + n ≡ suc n = omega arith in rw e refl

line-is : (rules : List RuleValue) (xs : List ItemValue) (i : ℕ) (x : ItemValue) (us : List ItemValue) → drop i xs ≡ x ∷ us → line_at rules xs i ≡ listed rules x
line-is rules xs i x us e = ap (λ (item : Option ItemValue). text_if_some (listed rules) item) (first-there xs i x us e)

-- ---- what an added line changes

old-behind : (text : List ℕ) (lines : List Line) → old_lines (behind_removed ((added, text) ∷ []) lines) ≡ old_lines lines
old-behind text [] = refl
old-behind text ((kept, other) ∷ lines) = refl
old-behind text ((added, other) ∷ lines) = refl
old-behind text ((removed, other) ∷ lines) = ap (λ (l : List (List ℕ)). other ∷ l) (old-behind text lines)

new-behind : (text : List ℕ) (lines : List Line) → new_lines (behind_removed ((added, text) ∷ []) lines) ≡ text ∷ new_lines lines
new-behind text [] = refl
new-behind text ((kept, other) ∷ lines) = refl
new-behind text ((added, other) ∷ lines) = refl
new-behind text ((removed, other) ∷ lines) = new-behind text lines

-- ---- the rows in front of others

module _ (rules : List RuleValue) (xs ys : List ItemValue) where
  -- what the lines of some rows have of both lists, and what is left behind them
  record Front (rows later : List Row) (i j : ℕ) (us vs : List ItemValue) : Type 0 where
    old : map (listed rules) us ≡ old_lines (lines_of rules xs ys i j rows) ++ map (listed rules) (drop (left_count rows) us)
    new : map (listed rules) vs ≡ new_lines (lines_of rules xs ys i j rows) ++ map (listed rules) (drop (right_count rows) vs)
    left_many : left_count rows ≡ length (old_lines (lines_of rules xs ys i j rows))
    right_many : right_count rows ≡ length (new_lines (lines_of rules xs ys i j rows))
    rest : AreBeside later (drop (left_count rows) us) (drop (right_count rows) vs)

  front : (rows later : List Row) (i j : ℕ) (us vs : List ItemValue) → AreBeside (rows ++ later) us vs → drop i xs ≡ us → drop j ys ≡ vs
      → Front rows later i j us vs
  front [] later i j us vs h left right = record { old = refl; new = refl; left_many = refl; right_many = refl; rest = h }
  front (Same ∷ rows) later i j (x ∷ us) (y ∷ vs) h left right =
      let more = front rows later (i + 1) (j + 1) us vs h.1 (drop-next xs i x us left) (drop-next ys j y vs right) in
      let line = line-is rules xs i x us left in
      record {
        old = rw (line, drop-one x us (left_count rows)) (ap (λ (l : List (List ℕ)). listed rules x ∷ l) more.old);
        new = rw (line, drop-one y vs (right_count rows), h.0) (ap (λ (l : List (List ℕ)). listed rules y ∷ l) more.new);
        left_many = let e = more.left_many in omega arith;
        right_many = let e = more.right_many in omega arith;
        rest = rw (drop-one x us (left_count rows), drop-one y vs (right_count rows)) more.rest;
      }
  front (Changed ∷ rows) later i j (x ∷ us) (y ∷ vs) h left right =
      let more = front rows later (i + 1) (j + 1) us vs h.2 (drop-next xs i x us left) (drop-next ys j y vs right) in
      let lines = lines_of rules xs ys (i + 1) (j + 1) rows in
      record {
        old = rw (line-is rules xs i x us left, old-behind (line_at rules ys j) lines, drop-one x us (left_count rows)) (ap (λ (l : List (List ℕ)). listed rules x ∷ l) more.old);
        new = rw (new-behind (line_at rules ys j) lines, line-is rules ys j y vs right, drop-one y vs (right_count rows)) (ap (λ (l : List (List ℕ)). listed rules y ∷ l) more.new);
        left_many = rw (old-behind (line_at rules ys j) lines) (let e = more.left_many in omega arith);
        right_many = rw (new-behind (line_at rules ys j) lines) (let e = more.right_many in omega arith);
        rest = rw (drop-one x us (left_count rows), drop-one y vs (right_count rows)) more.rest;
      }
  front (OnlyLeft ∷ rows) later i j (x ∷ us) vs h left right =
      let more = front rows later (i + 1) j us vs h (drop-next xs i x us left) right in
      let none-right : 0 + right_count rows ≡ right_count rows = omega arith in
      record {
        old = rw (line-is rules xs i x us left, drop-one x us (left_count rows)) (ap (λ (l : List (List ℕ)). listed rules x ∷ l) more.old);
        new = rw none-right more.new;
        left_many = let e = more.left_many in omega arith;
        right_many = rw none-right more.right_many;
        rest = rw (drop-one x us (left_count rows), none-right) more.rest;
      }
  front (OnlyRight ∷ rows) later i j us (y ∷ vs) h left right =
      let more = front rows later i (j + 1) us vs h left (drop-next ys j y vs right) in
      let none-left : 0 + left_count rows ≡ left_count rows = omega arith in
      let lines = lines_of rules xs ys i (j + 1) rows in
      record {
        old = rw (old-behind (line_at rules ys j) lines, none-left) more.old;
        new = rw (new-behind (line_at rules ys j) lines, line-is rules ys j y vs right, drop-one y vs (right_count rows)) (ap (λ (l : List (List ℕ)). listed rules y ∷ l) more.new);
        left_many = rw (old-behind (line_at rules ys j) lines, none-left) more.left_many;
        right_many = rw (new-behind (line_at rules ys j) lines) (let e = more.right_many in omega arith);
        rest = rw (none-left, drop-one y vs (right_count rows)) more.rest;
      }
  front _ later i j _ _ h left right = absurd h

  -- ---- hunk after hunk

  -- the hunks behind one are those of what is left behind it
  passed : (shown i j : ℕ) (rows : List Row)
      → hunks_behind shown i j rows ≡ hunks_behind 0 (i + left_count (take shown rows)) (j + right_count (take shown rows)) (drop shown rows)
  passed zero i j rows = let one : i + 0 ≡ i = omega arith in let other : j + 0 ≡ j = omega arith in rw (one, other) refl
  passed (suc shown) i j [] = refl
  passed (suc shown) i j (row ∷ rows) =
      let one : i + left_in row + left_count (take shown rows) ≡ i + (left_in row + left_count (take shown rows)) = omega arith in
      let other : j + right_in row + right_count (take shown rows) ≡ j + (right_in row + right_count (take shown rows)) = omega arith in
      passed shown (i + left_in row) (j + right_in row) rows ∙ ap₂ (λ (n m : ℕ). hunks_behind 0 n m (drop shown rows)) one other

  -- one more line that both have in front
  one-alike : (hunks : List Hunk) (i j : ℕ) (line : List ℕ) (one other : List (List ℕ)) → Leads rules xs ys hunks (i + 1) (j + 1) one other
      → Leads rules xs ys hunks i j (line ∷ one) (line ∷ other)
  one-alike [] i j line one other h = ap (λ (l : List (List ℕ)). line ∷ l) h
  one-alike (hunk ∷ hunks) i j line one other h =
      let (one_rest, other_rest, applies, later) = h in (
        one_rest,
        other_rest,
        record {
          alike = line ∷ applies.alike;
          left_is = let e = applies.left_is in omega arith;
          right_is = let e = applies.right_is in omega arith;
          one_is = ap (λ (l : List (List ℕ)). line ∷ l) applies.one_is;
          other_is = ap (λ (l : List (List ℕ)). line ∷ l) applies.other_is;
          left_many = applies.left_many;
          right_many = applies.right_many;
        },
        later,
      )

  -- a hunk has its first row
  long : (row : Row) (later : List Row) → 0 < hunk_length (row ∷ later)
  long row later =
      elim (cases_Bool (changes_within (2 * context + 1) later)) [
        | inl near ↦ let e : rows_to_last_change (row ∷ later) ≡ suc (rows_to_last_change later) = rw near refl in omega arith
        | inr far ↦ let e : rows_to_last_change (row ∷ later) ≡ 1 = rw far refl in omega arith
      ]

  -- what is left behind so many rows
  passed-first : (n i j : ℕ) (row : Row) (rows : List Row) → 0 < n
      → hunks_behind (n - 1) (i + left_in row) (j + right_in row) rows
      ≡ hunks_behind 0 (i + left_count (take n (row ∷ rows))) (j + right_count (take n (row ∷ rows))) (drop n (row ∷ rows))
  passed-first zero i j row rows h = absurd (omega arith)
  passed-first (suc n) i j row rows h = let e : suc n - 1 ≡ n = omega arith in rw e (passed (suc n) i j (row ∷ rows))

  -- rows of at most so many lead on
  abbrev LeadWithin : ℕ → Type 0
  LeadWithin most =
      (rows : List Row) (i j : ℕ) (us vs : List ItemValue) → length rows ≤ most → AreBeside rows us vs → drop i xs ≡ us → drop j ys ≡ vs
      → Leads rules xs ys (hunks_behind 0 i j rows) i j (map (listed rules) us) (map (listed rules) vs)

  far-row : (most : ℕ) → LeadWithin most → (row : Row) (rows : List Row) (i j : ℕ) (us vs : List ItemValue) → length rows ≤ most
      → is_change row ≡ false → AreBeside (row ∷ rows) us vs → drop i xs ≡ us → drop j ys ≡ vs
      → Leads rules xs ys (hunks_behind 0 (i + left_in row) (j + right_in row) rows) i j (map (listed rules) us) (map (listed rules) vs)
  far-row most more Same rows i j (x ∷ us) (y ∷ vs) short same h left right =
      rw h.0
      (one-alike (hunks_behind 0 (i + 1) (j + 1) rows) i j (listed rules y) (map (listed rules) us) (map (listed rules) vs)
      (more rows (i + 1) (j + 1) us vs short h.1 (drop-next xs i x us left) (drop-next ys j y vs right)))
  far-row most more Same rows i j [] vs short same h left right = absurd h
  far-row most more Same rows i j (x ∷ us) [] short same h left right = absurd h
  far-row most more Changed rows i j us vs short same h left right = absurd cc
  far-row most more OnlyLeft rows i j us vs short same h left right = absurd cc
  far-row most more OnlyRight rows i j us vs short same h left right = absurd cc

  near-row : (most : ℕ) → LeadWithin most → (row : Row) (rows : List Row) (i j : ℕ) (us vs : List ItemValue) → length rows ≤ most
      → AreBeside (row ∷ rows) us vs → drop i xs ≡ us → drop j ys ≡ vs
      → Leads rules xs ys
      (record { left = i; right = j; rows = take (hunk_length (row ∷ rows)) (row ∷ rows) }
      ∷ hunks_behind (hunk_length (row ∷ rows) - 1) (i + left_in row) (j + right_in row) rows)
      i j (map (listed rules) us) (map (listed rules) vs)
  near-row most more row rows i j us vs short h left right =
      let n = hunk_length (row ∷ rows) in
      let first = take n (row ∷ rows) in
      let later = drop n (row ∷ rows) in
      let some = long row rows in
      let parts = front first later i j us vs (subst (λ (l : List Row). AreBeside l us vs) (sym (take-append-drop n (row ∷ rows))) h) left right in
      let fewer = length-drop n (row ∷ rows) in
      let less : length later ≤ most = omega arith in
      let on : drop (i + left_count first) xs ≡ drop (left_count first) us = drop-on xs i (left_count first) ∙ ap (drop (left_count first)) left in
      let off : drop (j + right_count first) ys ≡ drop (right_count first) vs = drop-on ys j (right_count first) ∙ ap (drop (right_count first)) right in (
        map (listed rules) (drop (left_count first) us),
        map (listed rules) (drop (right_count first) vs),
        record {
          alike = [];
          left_is = omega arith;
          right_is = omega arith;
          one_is = parts.old;
          other_is = parts.new;
          left_many = parts.left_many;
          right_many = parts.right_many;
        },
        rw (passed-first n i j row rows some) (more later (i + left_count first) (j + right_count first) _ _ less parts.rest on off),
      )

  lead : (most : ℕ) → LeadWithin most
  lead most [] i j [] [] short h left right = refl
  lead most [] i j (x ∷ us) vs short h left right = absurd h
  lead most [] i j [] (y ∷ vs) short h left right = absurd h
  lead zero (row ∷ rows) i j us vs short h left right = absurd (omega arith)
  lead (suc most) (row ∷ rows) i j us vs short h left right =
      elim (cases_Bool (begins_hunk (row ∷ rows))) [
        | inl near ↦ rw near (near-row most (lead most) row rows i j us vs (omega arith) h left right)
        | inr far ↦ rw far (far-row most (lead most) row rows i j us vs (omega arith) (unchanged row (changes_within context rows) far) h left right)
      ]
    where
      unchanged : (row : Row) (later : Bool) → is_change row || later ≡ false → is_change row ≡ false
      unchanged Same later e = refl
      unchanged Changed later e = e
      unchanged OnlyLeft later e = e
      unchanged OnlyRight later e = e

pub hunks_lead_to_the_right : HunksLeadToTheRight
hunks_lead_to_the_right rules xs ys =
    lead rules xs ys (length (rows_of xs ys)) (rows_of xs ys) 0 0 xs ys (omega arith) (rows_are_beside xs ys) refl refl
