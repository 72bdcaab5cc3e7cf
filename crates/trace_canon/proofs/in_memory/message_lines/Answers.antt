-- What the call wrote is the text; a failed write is refused memory, for a message that was delivered.
use Rattle.std.proofs.Common.{inl, ap, sym, ◌∙◌}
use Rattle.isotp_receive.specs.declared.TheConstants.{MESSAGE_LIMIT}
use Rattle.trace_canon.specs.InMemory.{NeedsMemoryForMessageLines}
use Rattle.trace_canon.specs.MessagesScript.{messages_script}
use Rattle.trace_run.specs.Script.{needs_none, says_no_refusal}
use Rattle.trace_canon.proofs.GatheredTexts.{gathered, ran_in_memory}
use Rattle.trace_canon.proofs.InMemories.{message_lines_in_memory, said_in_memory}
use Rattle.trace_canon.proofs.in_memory.message_lines.Goals as goal

pub returns : goal.returns
returns c = record {
  answer =
      let script = messages_script c.args.notation MESSAGE_LIMIT c.args.config.now.rules in
      let ran = c.messages-answer.ensures.ran.run in
      let here =
      ran_in_memory c.messages-answer.result c.args.log.now c.into_inner.result.items c.new-2.result c.messages-answer.new.source c.new-2.ensures
      ran.read.gave ran.read.ended ran.read.failed (ap (λ w. w.taken) c.new-target.ensures)
      (ap (λ w. w.inner.items) c.new-target.ensures ∙ c.new.ensures.items) ran.wrote.took
      (ap (λ v. v.items) (sym c.into_inner.ensures)) in
      gathered _ _ (λ summary. record { text = c.into_inner.result; summary = summary }) c.messages-answer.result c.counted_text.result
      (said_in_memory script.of_frame script.at_the_end says_no_refusal needs_none
      (NeedsMemoryForMessageLines c.args.notation) MESSAGE_LIMIT c.args.config.now c.args.log.now _ _ _ _ _ _
      c.messages-answer.result here
      (λ refused. inl (c.messages-answer.ensures.ran.memory (λ T e none. none) c.args.log.now here.agrees refused))
      (message_lines_in_memory c.args.notation MESSAGE_LIMIT c.args.config.now c.args.log.now _ _ _)
      (ran.answer c.args.log.now here.agrees))
      c.counted_text.ensures.answer;
}
