-- The law is its lemma.
use Rattle.uds_names.proofs.TroubleCodeLemmas.{trouble_codes_are_plain}
use Rattle.uds_names.proofs.laws.trouble_codes_are_plain.Goals as goal

pub returns : goal.returns
returns c = trouble_codes_are_plain
