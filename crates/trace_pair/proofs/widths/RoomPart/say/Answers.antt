-- The digits are those of the number.
use Rattle.trace_pair.proofs.widths.RoomPart.say.Goals as goal

pub returns : goal.returns
returns g c = rw (c.min.ensures, c.digits.ensures) at c.say.ensures
