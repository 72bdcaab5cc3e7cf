-- Nothing is written exactly where both sessions are equal.
use Rattle.std.proofs.Common.{◌≡◌, ℕ, suc, ◌+◌, Bool, true, false, List, [], ◌∷◌, ◌++◌, codes, length, ap₂, subst, sym, refl, Some, None, Option, option_map}
use Rattle.std.specs.Prelude.{if◌then◌else◌}
use Rattle.uds_exchange.specs.Difference.{IsFirstDifference}
use Rattle.uds_exchange.specs.Meaning.{ItemValue}
use Rattle.uds_difference.specs.Bound.{bound_for}
use Rattle.uds_difference.specs.Laws.{first_change}
use Rattle.uds_difference.specs.Rows.{AreBeside, is_shortest, rows_of}
use Rattle.uds_difference.specs.declared.row.Row.{Row}
use Rattle.uds_difference.specs.declared.row.Row.TheVariants.{Same, Changed, OnlyLeft, OnlyRight}
use Rattle.uds_difference.proofs.Promises.{first_change_is_first_difference, rows_are_beside}
use Rattle.shown_rows.specs.Rows.{differs}
use Rattle.trace_difference.specs.Laws.{NothingIsWrittenOfEqualSessions}
use Rattle.trace_difference.specs.Unified.{note_text, rule_notes}

-- no row is a change where there is no first one
no-change : (rows : List Row) → first_change rows ≡ None → differs rows ≡ false
no-change [] e = refl
no-change (Same ∷ rows) e = no-change rows (none-behind (first_change rows) e)
  where
    none-behind : (place : Option ℕ) → option_map (λ (n : ℕ). suc n) place ≡ None → place ≡ None
    none-behind None e = refl
    none-behind (Some n) e = absurd cc
no-change (Changed ∷ rows) e = absurd cc
no-change (OnlyLeft ∷ rows) e = absurd cc
no-change (OnlyRight ∷ rows) e = absurd cc

-- equal lists have no first difference
no-place : (xs : List ItemValue) (place : Option ℕ) → IsFirstDifference xs xs place → place ≡ None
no-place xs None h = refl
no-place xs (Some n) h = absurd (h.1 refl)

-- rows without a change are those of equal lists
all-same : (rows : List Row) (xs ys : List ItemValue) → AreBeside rows xs ys → differs rows ≡ false → xs ≡ ys
all-same [] [] [] h e = refl
all-same (Same ∷ rows) (x ∷ xs) (y ∷ ys) h e = ap₂ (λ (x : ItemValue) (xs : List ItemValue). x ∷ xs) h.0 (all-same rows xs ys h.1 e)
all-same (Changed ∷ rows) (x ∷ xs) (y ∷ ys) h e = absurd cc
all-same (OnlyLeft ∷ rows) (x ∷ xs) ys h e = absurd cc
all-same (OnlyRight ∷ rows) xs (y ∷ ys) h e = absurd cc
all-same _ _ _ h e = absurd h

-- there is something to write where there is a change
some-text : (notes : List ℕ) (shortest : Bool) (bound : ℕ) (header later : List ℕ) → notes ++ note_text shortest bound ++ (codes "--- " ++ header) ++ later ≡ [] → ⊥
some-text [] true bound header later e = absurd cc
some-text [] false bound header later e = absurd cc
some-text (byte ∷ notes) shortest bound header later e = absurd cc

text-or-none : (there : Bool) (text : List ℕ) → (text ≡ [] → ⊥) → (if there then text else []) ≡ [] → there ≡ false
text-or-none true text some e = absurd (some e)
text-or-none false text some e = refl

pub nothing_is_written_of_equal_sessions : NothingIsWrittenOfEqualSessions
nothing_is_written_of_equal_sessions rules left_name right_name left right =
    let xs = left.meaning in
    let ys = right.meaning in (
      λ equal.
          let first = subst (λ (l : List ItemValue). IsFirstDifference xs l (first_change (rows_of xs ys))) (sym equal) (first_change_is_first_difference xs ys) in
          let none = no-change (rows_of xs ys) (no-place xs (first_change (rows_of xs ys)) first) in
          rw none refl,
      λ e.
          all-same (rows_of xs ys) xs ys (rows_are_beside xs ys)
          (text-or-none (differs (rows_of xs ys)) _ (some-text (rule_notes rules left.spoken.items right.spoken.items) (is_shortest xs ys) (bound_for (length xs + length ys)) _ _) e),
    )
