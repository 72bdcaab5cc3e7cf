-- The law is its lemma.
use Rattle.uds_names.proofs.PlainNames.{names_are_plain}
use Rattle.uds_names.proofs.laws.names_are_plain.Goals as goal

pub returns : goal.returns
returns c = names_are_plain
