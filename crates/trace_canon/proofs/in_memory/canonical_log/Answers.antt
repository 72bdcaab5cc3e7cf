-- Over memory no device fails: what the call wrote is the text, and a failed write refused memory.
use Rattle.std.proofs.Common.{ap, sym, ◌∙◌}
use Rattle.isotp_receive.specs.declared.TheConstants.{MESSAGE_LIMIT}
use Rattle.trace_canon.proofs.GatheredTexts.{gathered, ran_in_memory}
use Rattle.trace_canon.proofs.InMemories.{canonical_in_memory}
use Rattle.trace_canon.proofs.in_memory.canonical_log.Goals as goal

pub returns : goal.returns
returns c = record {
  answer =
      let ran = c.normalise-answer.ensures in
      let here =
      ran_in_memory c.normalise-answer.result c.args.log.now c.into_inner.result.items c.new-2.result c.normalise-answer.new.source c.new-2.ensures
      ran.way.read.gave ran.way.read.ended ran.way.read.failed (ap (λ w. w.taken) c.new-target.ensures)
      (ap (λ w. w.inner.items) c.new-target.ensures ∙ c.new.ensures.items) ran.wrote.took
      (ap (λ v. v.items) (sym c.into_inner.ensures)) in
      gathered _ _ (λ summary. record { text = c.into_inner.result; summary = summary }) c.normalise-answer.result c.counted_text.result
      (canonical_in_memory MESSAGE_LIMIT c.args.config.now c.args.log.now _ _ _ _ _ _ c.normalise-answer.result here
      (ran.way.memory c.args.log.now here.agrees) (ran.some c.args.log.now here.agrees) (ran.answer c.args.log.now here.agrees))
      c.counted_text.ensures.answer;
}
