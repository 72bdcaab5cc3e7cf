use Rattle.shown_rows.proofs.Promises.{changes_stand_at_their_places}
use Rattle.shown_rows.proofs.laws.changes_stand_at_their_places.Goals as goal

pub returns : goal.returns
returns c = changes_stand_at_their_places
