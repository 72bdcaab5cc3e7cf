use Rattle.std.proofs.Common.{ℕ, List, ap, sym, subst, ◌∙◌}
use Rattle.trace_canon.specs.ComparisonText.{comparison_text}
use Rattle.udsnorm.specs.Ending.{has_unclean}
use Rattle.udsnorm.specs.Telling.{WroteText}
use Rattle.udsnorm.proofs.Pairs.{text_of_clean, wrote_by_print}
use Rattle.udsnorm.proofs.pair_jobs.write_answer.Goals as goal

pub returns-in-Ok-clause-text : goal.returns-in-Ok-clause-text
returns-in-Ok-clause-text g c =
    subst (λ (text : List ℕ). WroteText g.W.Target text c.is_ok.result c.args.out.now c.write_comparison.new.target)
    (text_of_clean c.args.strict (λ rules. comparison_text rules c.args.style) c.args.rules.now c.in-Ok.compared c.args.answer.now c.in-Ok.is
    (ap (has_unclean c.args.strict) (sym c.pair_of.ensures) ∙ sym c.has_unclean.ensures ∙ c.if-not-has_unclean.true))
    (wrote_by_print g.W.Target _ c.args.out.now c.write_comparison.new.target c.write_comparison.result c.is_ok.result c.write_comparison.ensures.printed c.is_ok.ensures.value)
