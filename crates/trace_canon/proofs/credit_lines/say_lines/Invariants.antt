-- The credit lines so far were said.
use Rattle.std.proofs.Common.{take}
use Rattle.std.specs.List.{flat_map}
use Rattle.trace_canon.specs.CreditLines.{credit_line_text}
use Rattle.trace_canon.proofs.credit_lines.say_lines.Given as goal

abbrev pub invariant-lines : goal.invariant-lines
invariant-lines g l = g.S.TextSink.says l.initial.out (flat_map (credit_line_text l.notation) (take l.line-index l.lines)) l.out
