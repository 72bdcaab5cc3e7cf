use Rattle.uds_rules.proofs.Promises.{no_byte_is_made_up, no_byte_is_added}
use Rattle.uds_rules.proofs.laws.no_byte_is_made_up.Goals as goal

pub returns : goal.returns
returns c = record { bytes = no_byte_is_made_up; added = no_byte_is_added }
