use Rattle.can_log.proofs.Promises.{data_is_what_hex_decodes}
use Rattle.can_log.proofs.laws.data_is_what_hex_decodes.Goals as goal

pub returns : goal.returns
returns c = data_is_what_hex_decodes
