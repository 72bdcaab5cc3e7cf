use Rattle.shown_rows.proofs.Promises.{hunks_stand_at_their_places}
use Rattle.shown_rows.proofs.laws.hunks_stand_at_their_places.Goals as goal

pub returns : goal.returns
returns c = hunks_stand_at_their_places
