use Rattle.can_log.proofs.Promises.{refused_place_is_one}
use Rattle.can_log.proofs.laws.refused_place_is_one.Goals as goal

pub returns : goal.returns
returns c = refused_place_is_one
