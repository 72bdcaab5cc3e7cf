-- The links up to the place of the loop are said.
use Rattle.std.proofs.Common.{take}
use Rattle.trace_report.specs.Links.{links_behind}
use Rattle.trace_report.proofs.links.LinksBehindPart.say.Given as goal

abbrev pub invariant-targets : goal.invariant-targets
invariant-targets g l = g.S.TextSink.says l.initial.out (links_behind (take l.target-index l.self.0.now)) l.out
