-- The lines of the items up to the number of the loop are said.
use Rattle.std.proofs.Common.{take}
use Rattle.trace_text.specs.ItemLines.{list_text}
use Rattle.trace_text.proofs.item_lines.say_items.Given as goal

abbrev pub invariant-items : goal.invariant-items
invariant-items g l = g.S.TextSink.says l.initial.out (list_text l.rules l.style (take l.i l.meaning)) l.out
