-- At how many changes a log is not clean, counted in one row after another.
use Rattle.std.proofs.Common.{◌≡◌, ℕ, ◌+◌, Bool, true, false, List, ◌∷◌, length, Option, Some, None, ap, sym, ◌∙◌, arith, refl}
use Rattle.std.specs.Prelude.{◌||◌}
use Rattle.std.specs.List.{list_any}
use Rattle.uds_difference.specs.declared.row.Row.{Row}
use Rattle.shown_rows.specs.declared.changes.Change.{Change}
use Rattle.shown_rows.specs.Changes.{changes_from}
use Rattle.shown_rows.specs.Rows.{left_in, right_in}
use Rattle.trace_report.specs.Session.{SessionValue}
use Rattle.pair_words.specs.declared.log.PairLog.{PairLog}
use Rattle.trace_pair.specs.Verdict.{is_lossy, lossy_count}
use Rattle.trace_pair.specs.proving.Changing.{count_if, is_lossy_if, lossy_if}
use Rattle.trace_pair.proofs.ChangeSteps.{found_at, none-begins, one-begins}

or-moved : (so_far here later : Bool) → ((here || so_far) || later) ≡ (so_far || (here || later))
or-moved true true later = refl
or-moved true false later = refl
or-moved false true later = refl
or-moved false false later = refl

any-none : (test : Change → Bool) (so_far : Bool) (all later : List Change) → all ≡ later → (so_far || list_any test later) ≡ (so_far || list_any test all)
any-none test so_far all later is = sym (ap (λ (l : List Change). so_far || list_any test l) is)

any-some : (test : Change → Bool) (so_far : Bool) (it : Change) (all later : List Change) → all ≡ it ∷ later
    → ((test it || so_far) || list_any test later) ≡ (so_far || list_any test all)
any-some test so_far it all later is = or-moved so_far (test it) (list_any test later) ∙ sym (ap (λ (l : List Change). so_far || list_any test l) is)

-- with one change more, or none, in front of the others
module _ (left right : SessionValue) where
  lossy-with : (here : Option Change) (all later : List Change) → (here ≡ None → all ≡ later) → ((it : Change) → here ≡ Some it → all ≡ it ∷ later)
      → lossy_count left right all ≡ lossy_if left right here + lossy_count left right later
  lossy-with None all later none some = let same = ap (lossy_count left right) (none refl) in omega (arith, same)
  lossy-with (Some it) all later none some = ap (lossy_count left right) (some it refl)

  count-with : (here : Option Change) (all later : List Change) → (here ≡ None → all ≡ later) → ((it : Change) → here ≡ Some it → all ≡ it ∷ later)
      → length all ≡ count_if here + length later
  count-with None all later none some = let same = ap (λ (l : List Change). length l) (none refl) in omega (arith, same)
  count-with (Some it) all later none some = let same = ap (λ (l : List Change). length l) (some it refl) in omega (arith, same)

  -- with the change that begins with a row, if one does
  module _ (front : Row) (i j a b : ℕ) (rows later : List Row) (row : Row) (first : rows ≡ row ∷ later) (found : Option Change)
      (is : found ≡ found_at front i j row later) (left_is : a ≡ left_in row) (right_is : b ≡ right_in row) where
    pub lossy-next : lossy_count left right (changes_from front i j rows) ≡ lossy_if left right found + lossy_count left right (changes_from row (i + a) (j + b) later)
    lossy-next =
        lossy-with found (changes_from front i j rows) (changes_from row (i + a) (j + b) later)
        (none-begins front i j a b rows later row first found is left_is right_is) (one-begins front i j a b rows later row first found is left_is right_is)

    pub count-next : length (changes_from front i j rows) ≡ count_if found + length (changes_from row (i + a) (j + b) later)
    count-next =
        count-with found (changes_from front i j rows) (changes_from row (i + a) (j + b) later)
        (none-begins front i j a b rows later row first found is left_is right_is) (one-begins front i j a b rows later row first found is left_is right_is)

-- whether a log is not clean at one of them
module _ (log : PairLog) (session : SessionValue) where
  any-with : (here : Option Change) (all later : List Change) (so_far : Bool) → (here ≡ None → all ≡ later) → ((it : Change) → here ≡ Some it → all ≡ it ∷ later)
      → ((is_lossy_if log session here || so_far) || list_any (is_lossy log session) later) ≡ (so_far || list_any (is_lossy log session) all)
  any-with None all later so_far none some = any-none (is_lossy log session) so_far all later (none refl)
  any-with (Some it) all later so_far none some = any-some (is_lossy log session) so_far it all later (some it refl)

  pub any-next : (front : Row) (i j a b : ℕ) (rows later : List Row) (row : Row) → rows ≡ row ∷ later → (found : Option Change)
      → found ≡ found_at front i j row later → a ≡ left_in row → b ≡ right_in row → (so_far now : Bool) → now ≡ (is_lossy_if log session found || so_far)
      → (now || list_any (is_lossy log session) (changes_from row (i + a) (j + b) later)) ≡ (so_far || list_any (is_lossy log session) (changes_from front i j rows))
  any-next front i j a b rows later row first found is left_is right_is so_far now now_is =
      ap (λ (mark : Bool). mark || list_any (is_lossy log session) (changes_from row (i + a) (j + b) later)) now_is
      ∙ any-with found (changes_from front i j rows) (changes_from row (i + a) (j + b) later) so_far
      (none-begins front i j a b rows later row first found is left_is right_is) (one-begins front i j a b rows later row first found is left_is right_is)
