use Rattle.std.proofs.Common.{◌≡◌, length}
use Rattle.trace_io.specs.Stream.{Took}
use Rattle.trace_io.specs.Written.{IsWritten}
use Rattle.trace_io.proofs.whole.write_all.Given as goal

abbrev pub invariant-writing : goal.invariant-writing
invariant-writing g l = record {
  took : Took (g.W.Target.taken l.initial.target) (g.W.Target.taken l.target) (g.W.Target.contents l.initial.target) (g.W.Target.contents l.target);
  taken : IsWritten (g.W.Target.taken l.initial.target) l.text (g.W.Target.taken l.target) l.rest;
  failures : g.W.Target.failures l.target ≡ g.W.Target.failures l.initial.target;
  no_empty_write : g.W.Target.had_empty_write l.target ≡ g.W.Target.had_empty_write l.initial.target;
  flushes : g.W.Target.flushes l.target ≡ g.W.Target.flushes l.initial.target;
}

abbrev pub decreases-writing : goal.decreases-writing
decreases-writing g l = length l.rest
