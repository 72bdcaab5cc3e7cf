-- It runs without rules. The counts certify what those of a run that is not strict do.
use Rattle.std.proofs.Common.{refl, subst}
use Rattle.isotp_receive.specs.declared.TheConstants.{MESSAGE_LIMIT}
use Rattle.trace_log.specs.Settings.{Settings}
use Rattle.trace_log.proofs.Promises.{certifies_without_rules}
use Rattle.trace_canon.specs.ExplainScript.{explain_script}
use Rattle.trace_run.proofs.Promises.{certifies}
use Rattle.trace_run.specs.Ran.{RanLenient}
use Rattle.trace_run.specs.Script.{answers_counts, command, needs_none, says_no_refusal}
use Rattle.trace_canon.proofs.explainer.explain.Goals as goal

pub returns-clause-ran : goal.returns-clause-ran
returns-clause-ran g c =
    subst (λ (settings : Settings). RanLenient g.R.Source g.W.Target
    (command (explain_script c.args.notation MESSAGE_LIMIT) says_no_refusal answers_counts needs_none)
    settings c.args.source.now c.args.target.now c.run_lenient.result c.run_lenient.new.source c.run_lenient.new.target)
    c.without_rules-plain.ensures c.run_lenient.ensures.ran

pub returns-clause-certificate : goal.returns-clause-certificate
returns-clause-certificate g c = λ log agrees.
    certifies_without_rules MESSAGE_LIMIT c.args.config.now log c.run_lenient.result
    (certifies (command (explain_script c.args.notation MESSAGE_LIMIT) says_no_refusal answers_counts needs_none) refl
    (λ T summary result counted. counted) _ log _ c.run_lenient.result _ _ ((returns-clause-ran g c).run.answer log agrees))
