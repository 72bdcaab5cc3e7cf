-- The law is its lemma.
use Rattle.uds_names.proofs.TroubleCodeLemmas.{trouble_records_are_whole}
use Rattle.uds_names.proofs.laws.trouble_records_are_whole.Goals as goal

pub returns : goal.returns
returns c = trouble_records_are_whole
