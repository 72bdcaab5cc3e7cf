-- The law is its lemma of letters.
use Rattle.shown_bytes.proofs.Harmless.{letters_are_harmless}
use Rattle.shown_bytes.proofs.laws.letters_are_harmless.Goals as goal

pub returns : goal.returns
returns c = letters_are_harmless
