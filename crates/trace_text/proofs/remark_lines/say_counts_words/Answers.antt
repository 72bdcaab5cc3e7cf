-- The first count, and the others each behind a space.
use Rattle.std.proofs.Common.{subst}
use Rattle.trace_text.proofs.RemarkLines.{counts_are}
use Rattle.trace_text.proofs.remark_lines.say_counts_words.Goals as goal

pub returns : goal.returns
returns g c =
    subst (λ text. g.S.TextSink.says c.args.out.now text c.say_counts-2.new.out)
    (counts_are c.args.counts.now c.in-Some.later.now c.in-Some.first.now c.in-Some.ensures.cases.0)
    (g.met.S.TextSink.onward _ _ _ _ _ c.say_counts.ensures c.say_counts-2.ensures)
