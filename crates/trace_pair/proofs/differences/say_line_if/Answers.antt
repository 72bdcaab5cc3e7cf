-- The change is said as the next one that is listed.
use Rattle.std.proofs.Common.{IfSome, Option, subst, sym}
use Rattle.shown_rows.specs.declared.changes.Change.{Change}
use Rattle.trace_pair.specs.ChangeWords.{IsSmall}
use Rattle.trace_pair.specs.proving.Changing.{line_if}
use Rattle.trace_pair.proofs.differences.say_line_if.Goals as goal

pub say_line-requires : goal.say_line-requires
say_line-requires g c = subst (λ (here : Option Change). IfSome here IsSmall) c.in-Some.is c.requires.change

pub returns-clause-text : goal.returns-clause-text
returns-clause-text g c =
    let left = c.args.sessions.left.now in
    let right = c.args.sessions.right.now in
    subst (λ (here : Option Change). g.S.TextSink.says c.args.out.now (line_if left right c.args.listed c.args.number here) c.say_line.new.out) (sym c.in-Some.is)
    (g.met.S.TextSink.onward _ _ _ _ _ (rw (c.saturating_sub.ensures) at c.say.ensures) c.say_line.ensures)
