-- A message adds the lines that it has where it is in the meaning, and else nothing.
use Rattle.std.proofs.Common.{ap, sym, ◌∙◌}
use Rattle.uds_exchange.specs.Judging.{sent, step_after}
use Rattle.uds_exchange.proofs.Promises.{one_more_is_put_in}
use Rattle.trace_canon.specs.proving.SessionScript.{is_in_meaning}
use Rattle.trace_canon.proofs.Lengths.{length_by_step, same_by_step}
use Rattle.trace_canon.proofs.collector.added_length.Goals as goal

pub returns-then-is_in_meaning : goal.returns-then-is_in_meaning
returns-then-is_in_meaning c = λ M size known have.
    let message = sent c.args.message in
    let meant = ap is_in_meaning (sym known) ∙ sym c.is_in_meaning.ensures ∙ c.if-is_in_meaning.true in
    length_by_step c.args.config.now (step_after M message) _ _ message size c.lines_length.result
    (one_more_is_put_in M message) meant c.lines_length.ensures.length have

pub returns-else-is_in_meaning : goal.returns-else-is_in_meaning
returns-else-is_in_meaning c = λ M size known have.
    let message = sent c.args.message in
    let meant = ap is_in_meaning (sym known) ∙ sym c.is_in_meaning.ensures ∙ c.if-is_in_meaning.false in
    same_by_step c.args.config.now (step_after M message) _ _ message size (one_more_is_put_in M message) meant have
