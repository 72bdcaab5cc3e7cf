-- The lines of the changes in a list, one row after another.
use Rattle.std.proofs.Common.{◌≡◌, ℕ, suc, ◌+◌, ◌-◌, ◌≤◌, ◌<◌, List, [], ◌∷◌, ◌++◌, take, Option, Some, None, ap, ◌∙◌, arith, refl}
use Rattle.std.specs.Prelude.{◌==◌, if◌then◌else◌}
use Rattle.std.proofs.lemmas.List.{take_all}
use Rattle.text_parts.proofs.Promises.{IsLeft, same-rest, said-whole, say-more}
use Rattle.uds_difference.specs.declared.row.Row.{Row}
use Rattle.shown_rows.specs.declared.changes.Change.{Change}
use Rattle.shown_rows.specs.Changes.{changes_from}
use Rattle.shown_rows.specs.Rows.{left_in, right_in}
use Rattle.trace_report.specs.Session.{SessionValue}
use Rattle.trace_pair.specs.Differences.{difference_line, difference_lines, more_start}
use Rattle.trace_pair.specs.proving.Changing.{count_if, line_if}
use Rattle.trace_pair.proofs.ChangeSteps.{found_at, none-begins, one-begins}

module _ {S : Type 0} (says : S → List ℕ → S → Type 0) (onward : (s m t : S) (a b : List ℕ) → says s a m → says m b t → says s (a ++ b) t)
    (one other : SessionValue) (listed : ℕ) (old : S) (whole : List ℕ) where
  abbrev pub Listed : ℕ → List Change → S → Type 0
  Listed number later now = IsLeft says old (difference_lines one other listed number (take (listed + 1 - number) later)) whole now

  -- one more line is said, or none
  by-change : (number : ℕ) (here : Option Change) (all later : List Change) (now new : S) → number ≤ listed
      → (here ≡ None → all ≡ later) → ((it : Change) → here ≡ Some it → all ≡ it ∷ later) → Listed number all now
      → says now (line_if one other listed number here) new → Listed (number + count_if here) later new
  by-change number None all later now new within none some left said =
      let still : number ≡ number + 0 = omega arith in
      same-rest says old new _ _ whole (ap (λ (n : ℕ). difference_lines one other listed n (take (listed + 1 - n) later)) still)
      (say-more says onward old now new [] (difference_lines one other listed number (take (listed + 1 - number) later)) whole
      (same-rest says old now _ _ whole (ap (λ (l : List Change). difference_lines one other listed number (take (listed + 1 - number) l)) (none refl)) left) said)
  by-change number (Some it) all later now new within none some left said =
      let start = if number == 11 then more_start (listed - 10) else [] in
      let line = difference_line one other number it in
      let rest = difference_lines one other listed (number + 1) (take (listed + 1 - (number + 1)) later) in
      let more : listed + 1 - number ≡ suc (listed + 1 - (number + 1)) = omega arith in
      let first : difference_lines one other listed number (take (listed + 1 - number) all) ≡ (start ++ line) ++ rest =
      ap (λ (l : List Change). difference_lines one other listed number (take (listed + 1 - number) l)) (some it refl)
      ∙ ap (λ (n : ℕ). difference_lines one other listed number (take n (it ∷ later))) more in
      say-more says onward old now new (start ++ line) rest whole (same-rest says old now _ _ whole first left) said

  pub turn-change : (number : ℕ) (front : Row) (i j a b : ℕ) (rows later : List Row) (row : Row) (found : Option Change) (now new : S) → number ≤ listed
      → rows ≡ row ∷ later → found ≡ found_at front i j row later → a ≡ left_in row → b ≡ right_in row → Listed number (changes_from front i j rows) now
      → says now (line_if one other listed number found) new → Listed (number + count_if found) (changes_from row (i + a) (j + b) later) new
  turn-change number front i j a b rows later row found now new within first is left_is right_is left said =
      by-change number found (changes_from front i j rows) (changes_from row (i + a) (j + b) later) now new within
      (none-begins front i j a b rows later row first found is left_is right_is) (one-begins front i j a b rows later row first found is left_is right_is) left said

  -- as many are said as are listed
  pub turn-listed : (number : ℕ) (later : List Change) (now : S) → listed < number → Listed number later now → says old whole now
  turn-listed number later now over left =
      let none : listed + 1 - number ≡ 0 = omega arith in
      said-whole says old now whole (same-rest says old now _ _ whole (ap (λ (n : ℕ). difference_lines one other listed number (take n later)) none) left)

  -- or there are no more
  pub turn-last : (number : ℕ) (later : List Change) (now : S) → later ≡ [] → Listed number later now → says old whole now
  turn-last number later now none left =
      said-whole says old now whole
      (same-rest says old now _ _ whole
      (ap (λ (l : List Change). difference_lines one other listed number (take (listed + 1 - number) l)) none ∙ ap (difference_lines one other listed number) (take_all (listed + 1 - number) [] (omega arith))) left)
