-- The law is its lemma of bytes with blanks between.
use Rattle.shown_bytes.proofs.ListedBytes.{bytes_are_as_listed}
use Rattle.shown_bytes.proofs.laws.bytes_are_as_listed.Goals as goal

pub returns : goal.returns
returns c = bytes_are_as_listed
