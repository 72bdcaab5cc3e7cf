-- The text that the machine writes is the page, and the counts are those of its answer.
use Rattle.std.proofs.Common.{[], ap, sym, ◌∙◌}
use Rattle.isotp_receive.specs.declared.TheConstants.{MESSAGE_LIMIT}
use Rattle.trace_canon.proofs.Promises.{gathered, ran_in_memory, said_in_memory}
use Rattle.trace_report.specs.Front.{page_title}
use Rattle.trace_report.specs.InMemory.{NeedsMemoryForPage}
use Rattle.trace_report.specs.Page.{refused_text, report_script}
use Rattle.trace_run.specs.Script.{needs_none}
use Rattle.trace_report.proofs.in_memory.page.Goals as goal

pub returns : goal.returns
returns c =
    let title = page_title c.args.style.now c.args.name.now c.args.config.now in
    let script = report_script title MESSAGE_LIMIT c.args.config.now.rules in
    let refusal =
    refused_text title MESSAGE_LIMIT c.args.config.now.rules (record { first = []; is_over = c.report-answer.new.source.is_over }) in
    let ran = c.report-answer.ensures.ran.run in
    let here =
    ran_in_memory c.report-answer.result c.args.log.now c.into_inner.result.items c.new-2.result c.report-answer.new.source
    c.new-2.ensures ran.read.gave ran.read.ended ran.read.failed (ap (λ w. w.taken) c.new-target.ensures)
    (ap (λ w. w.inner.items) c.new-target.ensures ∙ c.new.ensures.items) ran.wrote.took
    (ap (λ v. v.items) (sym c.into_inner.ensures)) in
    gathered _ _ (λ summary. record { text = c.into_inner.result; summary = summary }) c.report-answer.result c.counted_text.result
    (said_in_memory script.of_frame script.at_the_end refusal needs_none NeedsMemoryForPage MESSAGE_LIMIT c.args.config.now
    c.args.log.now _ _ _ _ _ _ c.report-answer.result here (λ _. tt) (λ _. tt) (ran.answer c.args.log.now here.agrees))
    c.counted_text.ensures.answer
