-- The law is its lemma.
use Rattle.uds_names.proofs.TroubleCodeLemmas.{trouble_code_is_read_back}
use Rattle.uds_names.proofs.laws.trouble_code_is_read_back.Goals as goal

pub returns : goal.returns
returns c = trouble_code_is_read_back
