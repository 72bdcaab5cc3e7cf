use Rattle.std.proofs.Common.{◌≡◌, ◌++◌, List, ℕ, append_assoc, drop, take, sym, ap, ◌∙◌}
use Rattle.std.specs.Prelude.{codes}
use Rattle.std.proofs.lemmas.List.{take-append-drop}
use Rattle.can_log.proofs.plain.long_stamp_in_front.Goals as goal

pub returns-clause-parts : goal.returns-clause-parts
returns-clause-parts c =
    let piece = c.args.piece.now in
    let front = c.split_at.result.0.now in
    let rest = c.split_at.result.1.now in
    let found = c.is_longest_front.ensures c.if-not-is_longest_front.false in
    let whole : front ++ rest ≡ piece = (λ i. c.split_at.ensures.front i ++ c.split_at.ensures.back i) ∙ take-append-drop 20 piece in
    sym whole ∙ ap (λ (z : List ℕ). z ++ rest) found.parts ∙ ap (λ (z : List ℕ). codes "(" ++ z) (append_assoc (take 17 (drop 1 front)) (codes ") ") rest)
