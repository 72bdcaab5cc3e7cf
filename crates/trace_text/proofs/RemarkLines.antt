-- The line of the counts, by the counts that are said.
use Rattle.std.proofs.Common.{◌≡◌, ℕ, List, [], ◌∷◌, ◌++◌, refl, sym, ap, ◌∙◌, append_assoc, append-nil, codes}
use Rattle.std.specs.Fmt.{decimal}
use Rattle.std.specs.List.{flat_map}
use Rattle.trace_log.specs.declared.summary.Count.{Count}
use Rattle.trace_text.specs.RemarkLines.{count_text, counts_text}
use Rattle.trace_log.specs.Summing.{seen_counts}
use Rattle.trace_text.specs.Counts.{counts_between}

-- the counts behind the first one
later_counts : (counts : List Count) → counts_between (codes " ") (codes " ") counts
    ≡ flat_map (λ more. codes " " ++ count_text more) (seen_counts counts)
later_counts [] = refl
later_counts (count ∷ later) =
    ap (λ l. (codes " " ++ (count.0.now ++ (codes " " ++ decimal count.1))) ++ l) (later_counts later)
    ∙ ap (λ l. (codes " " ++ l) ++ flat_map (λ more. codes " " ++ count_text more) (seen_counts later))
    (sym (append_assoc count.0.now (codes " ") (decimal count.1)))

only_one : (name number : List ℕ) → (name ++ (codes " " ++ number)) ++ [] ≡ name ++ codes " " ++ number
only_one name number = simp (append_assoc, append-nil)

-- the first count, and then the others
pub counts_are : (counts later : List Count) (first : Count) → counts ≡ first ∷ later
    → counts_between [] (codes " ") (first ∷ []) ++ counts_between (codes " ") (codes " ") later ≡ counts_text (seen_counts counts)
counts_are counts later first is =
    rw is
    (ap (λ l. l ++ counts_between (codes " ") (codes " ") later) (only_one first.0.now (decimal first.1))
    ∙ ap (λ l. (first.0.now ++ codes " " ++ decimal first.1) ++ l) (later_counts later))
