-- A word stands in all bytes exactly where one stands in the rest.
use Rattle.std.proofs.Common.{◌≡◌, length}
use Rattle.shown_bytes.specs.Letters.{has_word}
use Rattle.shown_bytes.proofs.letters.has_word.Given as goal

abbrev pub invariant-places : goal.invariant-places
invariant-places l = has_word l.bytes ≡ has_word l.rest

abbrev pub decreases-places : goal.decreases-places
decreases-places l = length l.rest
