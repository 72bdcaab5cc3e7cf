use Rattle.std.proofs.Common.{rules}
use Rattle.udsnorm.proofs.hints.tell_awaited.Goals as goal

pub returns-then-failures-eq0-clause-told : goal.returns-then-failures-eq0-clause-told
returns-then-failures-eq0-clause-told g c wanted none given seen planned = record { asked = c.args.asked.now; planned = planned; told = search rules }
