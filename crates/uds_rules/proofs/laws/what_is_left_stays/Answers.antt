use Rattle.uds_rules.proofs.Promises.{what_is_left_stays, what_stays_is_left}
use Rattle.uds_rules.proofs.laws.what_is_left_stays.Goals as goal

pub returns : goal.returns
returns c = record { left = what_is_left_stays; stays = what_stays_is_left }
