-- The lines of the answers up to the place of the loop are said.
use Rattle.std.proofs.Common.{take}
use Rattle.trace_report.specs.SlowestLines.{slow_lines}
use Rattle.trace_report.proofs.slowest_lines.SlowLinesPart.say.Given as goal

abbrev pub invariant-answers : goal.invariant-answers
invariant-answers g l = g.S.TextSink.says l.initial.out (slow_lines (take l.answer-index l.self.0.now)) l.out
