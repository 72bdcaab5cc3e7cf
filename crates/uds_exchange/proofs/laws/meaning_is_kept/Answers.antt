use Rattle.uds_exchange.proofs.MeantAgain.{meaning_is_kept}
use Rattle.uds_exchange.proofs.laws.meaning_is_kept.Goals as goal

pub returns : goal.returns
returns c = meaning_is_kept
