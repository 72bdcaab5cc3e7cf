-- Before the first frame no reception stands.
use Rattle.std.proofs.Common.{refl}
use Rattle.trace_canon.proofs.messenger.messages.Goals as goal

pub run_lenient-requires-clause-machine : goal.run_lenient-requires-clause-machine
run_lenient-requires-clause-machine g c = record {
  same = refl;
  same_rules = c.rules.ensures;
  begun = c.start.ensures.begun;
  asked = λ objects. c.none.ensures;
}
