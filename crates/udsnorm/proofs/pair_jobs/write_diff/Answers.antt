use Rattle.std.proofs.Common.{ℕ, List, Result, ap, sym, subst, ◌∙◌}
use Rattle.std.specs.Prelude.{IfErr, IfOk}
use Rattle.trace_canon.specs.declared.comparer.Compared.{Compared}
use Rattle.trace_log.specs.declared.fault.CompareFault.{CompareFault}
use Rattle.udsnorm.specs.Engines.{text_of_difference}
use Rattle.udsnorm.specs.Ending.{has_unclean}
use Rattle.udsnorm.specs.Telling.{WroteText}
use Rattle.udsnorm.specs.proving.Pairs.{HasItems}
use Rattle.udsnorm.proofs.Pairs.{text_of_clean}
use Rattle.udsnorm.proofs.pair_jobs.write_diff.Goals as goal

pub returns-in-Ok-clause-text : goal.returns-in-Ok-clause-text
returns-in-Ok-clause-text g c =
    subst (λ (text : List ℕ). IfOk c.write_differing.result (λ wrote. WroteText g.W.Target text wrote c.args.out.now c.write_differing.new.out))
    (text_of_clean c.args.strict (text_of_difference c.args.notation c.args.left_name.now c.args.right_name.now) c.args.rules.now c.in-Ok.compared c.args.answer.now c.in-Ok.is
    (ap (has_unclean c.args.strict) (sym c.pair_of.ensures) ∙ sym c.has_unclean.ensures ∙ c.if-not-has_unclean.true))
    c.write_differing.ensures.text

pub returns-in-Ok-clause-answered : goal.returns-in-Ok-clause-answered
returns-in-Ok-clause-answered g c =
    subst (λ (answer : Result Compared CompareFault). IfErr c.write_differing.result (λ refused. HasItems answer)) (sym c.in-Ok.is) c.write_differing.ensures.items
