-- What the call wrote at its end is the text, and a failed write refused memory.
use Rattle.std.proofs.Common.{ap, sym, ◌∙◌}
use Rattle.trace_canon.specs.Finding.{text_of_credit_lines}
use Rattle.trace_text.specs.declared.credit_style.CreditStyle.TheVariants.{Lines}
use Rattle.trace_canon.proofs.GatheredTexts.{gathered, ran_in_memory}
use Rattle.trace_canon.proofs.InMemories.{written_in_memory}
use Rattle.trace_canon.proofs.in_memory.credit_lines.Goals as goal

pub returns : goal.returns
returns c = record {
  answer =
      let of = text_of_credit_lines (Lines c.args.notation) c.args.config.now in
      let ran = c.find-answer.ensures.ran in
      let here =
      ran_in_memory c.find-answer.result c.args.log.now c.into_inner.result.items c.new-2.result c.find-answer.new.source c.new-2.ensures
      ran.way.read.gave ran.way.read.ended ran.way.read.failed (ap (λ w. w.taken) c.new-target.ensures)
      (ap (λ w. w.inner.items) c.new-target.ensures ∙ c.new.ensures.items) ran.wrote.took
      (ap (λ v. v.items) (sym c.into_inner.ensures)) in
      gathered _ _ (λ summary. record { text = c.into_inner.result; summary = summary }) c.find-answer.result c.counted_text.result
      (written_in_memory of c.args.log.now _ _ _ _ _ c.find-answer.result here tt
      (ran.way.memory c.args.log.now here.agrees) (ran.answer c.args.log.now here.agrees))
      c.counted_text.ensures.answer;
}
