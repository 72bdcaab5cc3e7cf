-- What is left of the objects, row after row.
use Rattle.std.proofs.Common.{◌≡◌, ℕ, ◌+◌, Bool, true, false, List, [], ◌∷◌, ◌++◌, ap, ◌∙◌, refl}
use Rattle.uds_exchange.specs.Meaning.{ItemValue}
use Rattle.uds_difference.specs.declared.row.Row.{Row}
use Rattle.trace_text.specs.Json.{object_line}
use Rattle.shown_rows.specs.Rows.{is_change, left_in, right_in}
use Rattle.uds_rules.specs.Rule.{RuleValue}
use Rattle.trace_difference.specs.Objects.{next_change_number, row_members, row_text, rows_text}
use Rattle.text_parts.proofs.Promises.{IsLeft, same-rest, say-more}

module _ {S : Type 0} (says : S → List ℕ → S → Type 0) (onward : (s m t : S) (a b : List ℕ) → says s a m → says m b t → says s (a ++ b) t)
    (rules : List RuleValue) (xs ys : List ItemValue) (old : S) (whole : List ℕ) (rows later : List Row) (row : Row) (change_number : ℕ) (behind : Bool) (i j : ℕ) (now : S) where
  abbrev At : List Row → ℕ → Bool → ℕ → ℕ → S → Type 0
  At rest change_number behind i j now = IsLeft says old (rows_text rules xs ys change_number behind i j rest) whole now

  pub turn-change : rows ≡ row ∷ later → (new : S) → is_change row ≡ true → At rows change_number behind i j now
      → says now (object_line (row_members rules xs ys (next_change_number change_number behind row) i j row)) new
      → At later (next_change_number change_number behind row) (is_change row) (i + left_in row) (j + right_in row) new
  turn-change is new change left said =
      let object = object_line (row_members rules xs ys (next_change_number change_number behind row) i j row) in
      let text : row_text rules xs ys (next_change_number change_number behind row) i j row ≡ object = rw change refl in
      say-more says onward old now new object _ whole
      (same-rest says old now _ _ whole
      (ap (rows_text rules xs ys change_number behind i j) is
      ∙ ap (λ (l : List ℕ). l ++ rows_text rules xs ys (next_change_number change_number behind row) (is_change row) (i + left_in row) (j + right_in row) later) text)
      left)
      said

  pub turn-none : rows ≡ row ∷ later → is_change row ≡ false → At rows change_number behind i j now
      → At later (next_change_number change_number behind row) (is_change row) (i + left_in row) (j + right_in row) now
  turn-none is same left =
      let text : row_text rules xs ys (next_change_number change_number behind row) i j row ≡ [] = rw same refl in
      same-rest says old now _ _ whole
      (ap (rows_text rules xs ys change_number behind i j) is
      ∙ ap (λ (l : List ℕ). l ++ rows_text rules xs ys (next_change_number change_number behind row) (is_change row) (i + left_in row) (j + right_in row) later) text)
      left
