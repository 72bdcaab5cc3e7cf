-- No four in a row go over a byte that is no mark.
use Rattle.std.proofs.Common.{ap, sym, ◌∙◌}
use Rattle.std.proofs.lemmas.List.{take_rest}
use Rattle.shown_bytes.specs.Letters.{has_word}
use Rattle.shown_bytes.proofs.WordPlaces.{behind_fourth, behind_third, none_of_few}
use Rattle.shown_bytes.proofs.letters.has_word.Goals as goal

pub places-preserved-then-not-is_mark : goal.places-preserved-then-not-is_mark
places-preserved-then-not-is_mark c =
    c.places.invariant ∙ behind_fourth c.places.rest.now (sym c.is_mark.ensures ∙ c.if-not-is_mark.true) ∙ ap has_word (sym (take_rest c.places.rest.now 4))

pub places-preserved-then-not-is_mark-2 : goal.places-preserved-then-not-is_mark-2
places-preserved-then-not-is_mark-2 c =
    c.places.invariant ∙ behind_third c.places.rest.now (sym c.is_mark-else-not-is_mark.ensures ∙ c.if-not-is_mark-2.true) ∙ ap has_word (sym (take_rest c.places.rest.now 3))

pub returns : goal.returns
returns c = sym (c.places.invariant ∙ none_of_few c.places.rest.now c.in_default.len_below)
