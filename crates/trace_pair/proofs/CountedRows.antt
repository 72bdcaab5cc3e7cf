-- The heading of rows that differ counts them.
use Rattle.std.proofs.Common.{◌≡◌, ℕ, ◌+◌, Bool, true, false, List, [], ◌∷◌, ◌++◌, codes, length, ap, sym, ◌∙◌, append_assoc, arith, refl, inl, inr}
use Rattle.std.specs.Prelude.{◌==◌, ◌&&◌, if◌then◌else◌, cond}
use Rattle.std.specs.Fmt.{decimal}
use Rattle.std.specs.List.{filter, flat_map, sum_by}
use Rattle.std.proofs.lemmas.Bool.{cases_Bool, eqb-false, eqb-true, ne_eqb}
use Rattle.std.proofs.lemmas.List.{append-nil, length-append, length-replicate}
use Rattle.std.proofs.lemmas.List.Sums.{sum_by-cons}
use Rattle.uds_difference.specs.declared.row.Row.{Row}
use Rattle.uds_difference.specs.declared.row.Row.TheVariants.{Same, Changed, OnlyLeft, OnlyRight}
use Rattle.shown_rows.specs.Changes.{changes}
use Rattle.shown_rows.specs.Laws.{rows_of_change}
use Rattle.shown_rows.specs.Rows.{count_of, differs, is_change, same_row}
use Rattle.shown_rows.specs.declared.changes.Change.{Change}
use Rattle.shown_rows.proofs.Promises.{changes_have_each_row}
use Rattle.trace_report.specs.Verdict.{verdict_front}
use Rattle.trace_pair.specs.RowLaws.{HeadingCountsTheRows, ToldKind, differing_kinds, heading, number_of, rows_in_change, so_many, told}
use Rattle.trace_pair.specs.Verdict.{bound_line, counts_words, different_heading, different_verdict, differences_word}
use Rattle.trace_pair.specs.Verdict.{items_word, lossy_line_of, same_words, size_line}

-- How many rows are of a kind.

one-more : (is : Bool) (row : Row) (count : ℕ) (kept : List Row) → count ≡ length kept → (if is then 1 else 0) + count ≡ length (cond is (row ∷ kept) kept)
one-more true row count kept same = omega (arith, same)
one-more false row count kept same = omega (arith, same)

count-is : (kind : Row) (rows : List Row) → count_of kind rows ≡ number_of rows kind
count-is kind [] = refl
count-is kind (row ∷ rows) = one-more (same_row kind row) row (count_of kind rows) (filter (same_row kind) rows) (count-is kind rows)

all-kinds : (rows : List Row) → length (filter is_change rows) ≡ number_of rows OnlyLeft + number_of rows OnlyRight + number_of rows Changed
all-kinds [] = refl
all-kinds (Same ∷ rows) = all-kinds rows
all-kinds (Changed ∷ rows) = let more = all-kinds rows in omega (arith, more)
all-kinds (OnlyLeft ∷ rows) = let more = all-kinds rows in omega (arith, more)
all-kinds (OnlyRight ∷ rows) = let more = all-kinds rows in omega (arith, more)

in-changes : (all : List Change) → length (flat_map rows_of_change all) ≡ sum_by rows_in_change all
in-changes [] = refl
in-changes (here ∷ later) =
    length-append (rows_of_change here) (flat_map rows_of_change later)
    ∙ (λ i. length-replicate here.count here.kind i + in-changes later i)
    ∙ sym (sum_by-cons rows_in_change here later)

-- The words.

difference-word : (count : ℕ) → differences_word count ≡ so_many count (codes "difference") ++ codes ": "
difference-word count = by (count == 1)
  where
    by : (is : Bool) → (if is then codes "1 difference: " else decimal count ++ codes " differences: ")
        ≡ (if is then codes "1 " ++ codes "difference" else decimal count ++ (codes " " ++ codes "difference" ++ codes "s")) ++ codes ": "
    by true = refl
    by false = simp append_assoc

item-word : (count : ℕ) → items_word count ≡ so_many count (codes "item")
item-word count = refl

both-none : (left right : ℕ) → (left + right == 0) ≡ ((left == 0) && (right == 0))
both-none left right = elim (cases_Bool (left == 0)) [
  | inl none ↦ let is = eqb-true left 0 none in let all : left + right ≡ right = omega (arith, is) in ap (λ (n : ℕ). n == 0) all ∙ sym (ap (λ (b : Bool). b && (right == 0)) none)
  | inr some ↦ ne_eqb (left + right) 0 (λ is. eqb-false left 0 some (omega (arith, is))) ∙ sym (ap (λ (b : Bool). b && (right == 0)) some)
]

-- by what is there
module _ (comma items_left left items_right right items_changed changed in_left in_right other : List ℕ) where
  by-kinds : (no_left no_right no_changed : Bool)
      → (if no_left then [] else items_left ++ in_left)
      ++ (if no_right then [] else (if no_left then items_right else comma ++ right) ++ in_right)
      ++ (if no_changed then [] else (if no_left && no_right then items_changed else comma ++ changed) ++ other)
      ≡ (if no_left then (if no_right then (if no_changed then [] else items_changed ++ other ++ [])
      else items_right ++ in_right ++ ((if no_changed then [] else comma ++ changed ++ other) ++ []))
      else items_left ++ in_left ++ ((if no_right then [] else comma ++ right ++ in_right) ++ ((if no_changed then [] else comma ++ changed ++ other) ++ [])))
  by-kinds true true true = refl
  by-kinds true true false = simp (append_assoc, append-nil)
  by-kinds true false true = simp (append_assoc, append-nil)
  by-kinds true false false = simp (append_assoc, append-nil)
  by-kinds false true true = simp (append_assoc, append-nil)
  by-kinds false true false = simp (append_assoc, append-nil)
  by-kinds false false true = simp (append_assoc, append-nil)
  by-kinds false false false = simp (append_assoc, append-nil)

abbrev kinds : ℕ → ℕ → ℕ → List ToldKind
kinds left right changed =
    record { count = left; words = codes " only in A" } ∷ record { count = right; words = codes " only in B" } ∷ record { count = changed; words = codes " changed" } ∷ []

counts-told : (left right changed : ℕ) → counts_words left right changed ≡ told (kinds left right changed)
counts-told left right changed =
    ap (λ (none : Bool). (if left == 0 then [] else items_word left ++ codes " only in A")
    ++ (if right == 0 then [] else (if left == 0 then items_word right else codes ", " ++ decimal right) ++ codes " only in B")
    ++ (if changed == 0 then [] else (if none then items_word changed else codes ", " ++ decimal changed) ++ codes " changed")) (both-none left right)
    ∙ by-kinds (codes ", ") (items_word left) (decimal left) (items_word right) (decimal right) (items_word changed) (decimal changed)
    (codes " only in A") (codes " only in B") (codes " changed") (left == 0) (right == 0) (changed == 0)

counted : (rows : List Row) → counts_words (count_of OnlyLeft rows) (count_of OnlyRight rows) (count_of Changed rows) ≡ told (differing_kinds rows)
counted rows =
    (λ i. counts_words (count-is OnlyLeft rows i) (count-is OnlyRight rows i) (count-is Changed rows i))
    ∙ counts-told (number_of rows OnlyLeft) (number_of rows OnlyRight) (number_of rows Changed)

-- The heading.

in-parts : (head so between counts end same link see close rest : List ℕ)
    → (head ++ (so ++ between) ++ counts ++ end ++ same ++ link ++ see ++ close) ++ rest
    ≡ head ++ ((so ++ between ++ counts) ++ (end ++ (same ++ (link ++ see ++ close ++ rest))))
in-parts head so between counts end same link see close rest = simp append_assoc

apart : (a b c d : List ℕ) → a ++ b ++ c ++ d ≡ a ++ (b ++ c ++ d)
apart a b c d = simp append_assoc

-- one of two texts
first-of : (is : Bool) (one other : List ℕ) → is ≡ true → (if is then one else other) ≡ one
first-of true one other is = refl
first-of false one other is = absurd cc

abbrev heading_of : List Row → List ℕ
heading_of rows = different_heading (length (changes rows)) (count_of Same rows) (count_of OnlyLeft rows) (count_of OnlyRight rows) (count_of Changed rows)

module _ (rows : List Row) (rest : List ℕ) where
  abbrev head : List ℕ
  head = verdict_front (codes "warn") (codes "&#8800;")

  abbrev link : List ℕ
  link = codes " <a href=\"#difference\">"

  abbrev see : List ℕ
  see = if length (changes rows) == 1 then codes "See the difference." else codes "See the first difference."

  abbrev close : List ℕ
  close = codes "</a></p>\n"

  abbrev behind : List ℕ
  behind = link ++ see ++ close ++ rest

  heading-is : heading_of rows ++ rest ≡ head ++ (heading rows ++ (codes "</h2>\n<p>" ++ (same_words (number_of rows Same) ++ behind)))
  heading-is =
      (λ i. (head ++ difference-word (length (changes rows)) i ++ counted rows i ++ codes "</h2>\n<p>" ++ same_words (count-is Same rows i) ++ link ++ see ++ close) ++ rest)
      ∙ in-parts head (so_many (length (changes rows)) (codes "difference")) (codes ": ") (told (differing_kinds rows)) (codes "</h2>\n<p>")
      (same_words (number_of rows Same)) link see close rest

pub heading_counts_the_rows : HeadingCountsTheRows
heading_counts_the_rows shortest bound rows left right differ =
    let rest = lossy_line_of left right (changes rows) ++ bound_line shortest bound ++ size_line (length rows) in (
      (
        behind rows rest,
        first-of (differs rows) (different_verdict shortest bound rows left right) _ differ
            ∙ apart (heading_of rows) (lossy_line_of left right (changes rows)) (bound_line shortest bound) (size_line (length rows))
            ∙ heading-is rows rest,
      ),
      sym (in-changes (changes rows)) ∙ ap (λ (l : List Row). length l) (changes_have_each_row rows) ∙ all-kinds rows,
    )
