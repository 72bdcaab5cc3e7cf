-- The counts that are said are those that have names.
use Rattle.std.proofs.Common.{◌++◌, ap, codes, subst}
use Rattle.trace_text.specs.RemarkLines.{counts_text}
use Rattle.trace_text.proofs.remark_lines.say_summary_line.Goals as goal

pub returns : goal.returns
returns g c =
    subst (λ text. g.S.TextSink.says c.args.out.now text c.say.new.out) (ap (λ counts. counts_text counts ++ codes "\n") c.named.ensures)
    (g.met.S.TextSink.onward _ _ _ _ _ c.say_counts_words.ensures c.say.ensures)
