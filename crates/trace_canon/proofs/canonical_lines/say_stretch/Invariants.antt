-- The full frames so far were said, and no more are left than there were.
use Rattle.std.proofs.Common.{◌≤◌, length}
use Rattle.trace_canon.specs.proving.Saying.{SaysFront}
use Rattle.trace_canon.proofs.canonical_lines.say_stretch.Given as goal

abbrev pub invariant-stretch : goal.invariant-stretch
invariant-stretch g l = record {
  says : SaysFront g.S.TextSink.says l.config l.fn.progress l.fn.out l.fn.frames l.progress l.out l.rest;
  no_more : length l.rest ≤ length l.fn.frames;
}

abbrev pub decreases-stretch : goal.decreases-stretch
decreases-stretch g l = length l.rest
