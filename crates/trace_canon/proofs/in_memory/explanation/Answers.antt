-- What the call wrote is the text; each log has one, so memory may be refused to any.
use Rattle.std.proofs.Common.{ap, sym, ◌∙◌}
use Rattle.isotp_receive.specs.declared.TheConstants.{MESSAGE_LIMIT}
use Rattle.trace_log.specs.Settings.{without_rules}
use Rattle.trace_canon.specs.ExplainScript.{explain_script}
use Rattle.trace_canon.specs.InMemory.{NeedsMemoryForExplanation}
use Rattle.trace_run.specs.Script.{needs_none, says_no_refusal}
use Rattle.trace_canon.proofs.GatheredTexts.{gathered, ran_in_memory}
use Rattle.trace_canon.proofs.InMemories.{explanation_in_memory, said_in_memory}
use Rattle.trace_canon.proofs.in_memory.explanation.Goals as goal

pub returns : goal.returns
returns c = record {
  answer =
      let script = explain_script c.args.notation MESSAGE_LIMIT in
      let ran = c.explain-answer.ensures.ran.run in
      let here =
      ran_in_memory c.explain-answer.result c.args.log.now c.into_inner.result.items c.new-2.result c.explain-answer.new.source c.new-2.ensures
      ran.read.gave ran.read.ended ran.read.failed (ap (λ w. w.taken) c.new-target.ensures)
      (ap (λ w. w.inner.items) c.new-target.ensures ∙ c.new.ensures.items) ran.wrote.took
      (ap (λ v. v.items) (sym c.into_inner.ensures)) in
      gathered _ _ (λ summary. record { text = c.into_inner.result; summary = summary }) c.explain-answer.result c.counted_text.result
      (explanation_in_memory c.args.notation MESSAGE_LIMIT c.args.config.now c.args.log.now _ c.explain-answer.result
      (said_in_memory script.of_frame script.at_the_end says_no_refusal needs_none NeedsMemoryForExplanation MESSAGE_LIMIT
      (without_rules c.args.config.now) c.args.log.now _ _ _ _ _ _ c.explain-answer.result here (λ _. tt) (λ _. tt)
      (ran.answer c.args.log.now here.agrees)))
      c.counted_text.ensures.answer;
}
