-- What the call wrote at its end is the text, and a failed write refused memory.
use Rattle.std.proofs.Common.{ap, sym, ◌∙◌}
use Rattle.isotp_receive.specs.declared.TheConstants.{MESSAGE_LIMIT}
use Rattle.trace_text.specs.ItemLines.{list_text}
use Rattle.trace_canon.specs.ItemText.{text_over_items}
use Rattle.trace_canon.proofs.GatheredTexts.{gathered, ran_in_memory}
use Rattle.trace_canon.proofs.InMemories.{written_in_memory}
use Rattle.trace_canon.proofs.in_memory.item_list.Goals as goal

pub returns : goal.returns
returns c = record {
  answer =
      let of = text_over_items (list_text c.args.config.now.rules c.args.style) MESSAGE_LIMIT c.args.config.now in
      let ran = c.list-answer.ensures.ran in
      let here =
      ran_in_memory c.list-answer.result c.args.log.now c.into_inner.result.items c.new-2.result c.list-answer.new.source c.new-2.ensures
      ran.way.read.gave ran.way.read.ended ran.way.read.failed (ap (λ w. w.taken) c.new-target.ensures)
      (ap (λ w. w.inner.items) c.new-target.ensures ∙ c.new.ensures.items) ran.wrote.took
      (ap (λ v. v.items) (sym c.into_inner.ensures)) in
      gathered _ _ (λ summary. record { text = c.into_inner.result; summary = summary }) c.list-answer.result c.counted_text.result
      (written_in_memory of c.args.log.now _ _ _ _ _ c.list-answer.result here tt
      (ran.way.memory c.args.log.now here.agrees) (ran.answer c.args.log.now here.agrees))
      c.counted_text.ensures.answer;
}
