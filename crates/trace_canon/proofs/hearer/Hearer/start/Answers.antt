-- Before the first line nothing was heard.
use Rattle.std.proofs.Common.{refl}
use Rattle.trace_canon.proofs.Hearings.{heard_none}
use Rattle.trace_canon.proofs.hearer.Hearer.start.Goals as goal

pub returns : goal.returns
returns c = heard_none c.new.result 0 c.new.ensures refl
