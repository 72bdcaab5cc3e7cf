use Rattle.std.proofs.Common.{◌≡◌, ◌≢◌, ◌∙◌, ◌∷◌, [], rules, map, length, codes}
use Rattle.command_line.proofs.Taken.{fails, finds, none_are, some_are}
use Rattle.command_line.proofs.words.found.Goals as goal

pub returns-then-is_empty-clause-matches : goal.returns-then-is_empty-clause-matches
returns-then-is_empty-clause-matches c =
    let none : length c.args.words.now ≡ 0 = search rules in
    let words_are : map (λ s. s.now) c.as_slice.result.now ≡ codes "normalise" ∷ [] = search rules in
    finds _ _ _ _ c.in_ok-command.ensures (words_are ∙ none_are _ _ none) c.try_get_matches_from.ensures.matches

pub returns-then-is_empty-clause-kinds : goal.returns-then-is_empty-clause-kinds
returns-then-is_empty-clause-kinds c =
    let none : length c.args.words.now ≡ 0 = search rules in
    let words_are : map (λ s. s.now) c.as_slice.result.now ≡ codes "normalise" ∷ [] = search rules in
    fails _ _ _ _ c.in_ok-command.ensures (words_are ∙ none_are _ _ none) c.try_get_matches_from.ensures.kinds

pub returns-else-is_empty-clause-matches : goal.returns-else-is_empty-clause-matches
returns-else-is_empty-clause-matches c =
    let some : length c.args.words.now ≢ 0 = search rules in
    finds _ _ _ _ c.in_ok-command.ensures (some_are _ _ some) c.try_get_matches_from-else-is_empty.ensures.matches

pub returns-else-is_empty-clause-kinds : goal.returns-else-is_empty-clause-kinds
returns-else-is_empty-clause-kinds c =
    let some : length c.args.words.now ≢ 0 = search rules in
    fails _ _ _ _ c.in_ok-command.ensures (some_are _ _ some) c.try_get_matches_from-else-is_empty.ensures.kinds
