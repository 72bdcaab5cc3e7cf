use Rattle.trace_io.proofs.Agreements as proved
use Rattle.trace_io.proofs.laws.told_agrees.Goals as goal

pub returns : goal.returns
returns c = proved.told_agrees
