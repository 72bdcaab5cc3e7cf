-- On a blank sheet all of the text was said; it is settled, or a front of it is written.
use Rattle.std.proofs.Common.{subst}
use Rattle.std.specs.Prelude.{not}
use Rattle.trace_run.specs.proving.Carrying.{HasSaid, blank_sheet}
use Rattle.trace_run.proofs.Printings.{settled_text, printed, printed_front}
use Rattle.trace_run.proofs.printer.print.Goals as goal

pub returns-then-settle : goal.returns-then-settle
returns-then-settle g c =
    let W = g.W.Target in
    let old = c.args.target.now in
    let new = c.settle.new.target in
    let text = g.P.Part.text c.args.part in
    printed W text old new
    (subst (λ b. HasSaid W old text (blank_sheet (not b)) new) c.if-settle.true
    (settled_text W text old new _ c.new-sheet.result _ c.settle.result c.requires c.new-sheet.ensures.well
    c.new-sheet.ensures.blank c.say_part.ensures c.settle.ensures.settled))

pub returns-else-settle : goal.returns-else-settle
returns-else-settle g c =
    let W = g.W.Target in
    let old = c.args.target.now in
    let new = c.settle.new.target in
    let text = g.P.Part.text c.args.part in
    printed_front W text old new
    (subst (λ b. HasSaid W old text (blank_sheet (not b)) new) c.if-settle.false
    (settled_text W text old new _ c.new-sheet.result _ c.settle.result c.requires c.new-sheet.ensures.well
    c.new-sheet.ensures.blank c.say_part.ensures c.settle.ensures.settled))
