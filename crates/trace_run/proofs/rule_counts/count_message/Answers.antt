-- A message counts for each rule that speaks of it.
use Rattle.std.proofs.Common.{◌≡◌, ◌++◌, ap, sym, ◌∙◌}
use Rattle.isotp_receive.specs.EventSeen.{seen_verdict}
use Rattle.isotp_receive.specs.Verdict.{told_message}
use Rattle.trace_run.specs.Spoken.{spoken_counts}
use Rattle.trace_run.specs.proving.Speaking.{counts_more}
use Rattle.trace_run.proofs.CountedRules.{refilled, unspoken_counts}
use Rattle.trace_run.proofs.SpokenCounts.{counts_with_one}
use Rattle.trace_run.proofs.rule_counts.count_message.Goals as goal

pub returns-then-may_speak_of : goal.returns-then-may_speak_of
returns-then-may_speak_of c = λ M d few is.
    let rules = c.args.rules.now in
    let message = c.in-Message.message.now in
    let counts = c.args.counts.now.items in
    let new : c.count_spoken.new.counts ≡ counts_more c.args.rules.now c.in-Message.message.now c.args.counts.now.items =
    c.count_spoken.ensures ∙ ap (counts_more rules message) c.as_mut_slice.ensures.value in
    refilled rules message counts c.count_spoken.new.counts new ∙ ap (counts_more rules message) is ∙ counts_with_one rules M d message few
    ∙ ap (λ verdict. spoken_counts rules (M ++ told_message d (seen_verdict verdict))) (sym c.in-Message.is)

pub returns-else-may_speak_of : goal.returns-else-may_speak_of
returns-else-may_speak_of c = λ M d few is.
    let rules = c.args.rules.now in
    let message = c.in-Message.message.now in
    let counts = c.args.counts.now.items in
    unspoken_counts rules message counts (c.may_speak_of.ensures.none c.if-may_speak_of.false)
    ∙ ap (counts_more rules message) is ∙ counts_with_one rules M d message few
    ∙ ap (λ verdict. spoken_counts rules (M ++ told_message d (seen_verdict verdict))) (sym c.in-Message.is)
