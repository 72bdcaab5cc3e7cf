-- The law is its lemma of names.
use Rattle.shown_bytes.proofs.Harmless.{name_is_harmless}
use Rattle.shown_bytes.proofs.laws.name_is_harmless.Goals as goal

pub returns : goal.returns
returns c = name_is_harmless
