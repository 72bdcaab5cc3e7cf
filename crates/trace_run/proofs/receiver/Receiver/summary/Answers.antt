-- The counts of the lines, with what stands and what is pending, are the summary.
use Rattle.std.proofs.Common.{arith, ◌∙◌}
use Rattle.isotp_receive.specs.declared.TheConstants.{MESSAGE_LIMIT}
use Rattle.trace_log.specs.Messages.{messages_of_lines}
use Rattle.trace_log.specs.Trace.{trace}
use Rattle.trace_log.proofs.Promises.{summed_up}
use Rattle.trace_run.proofs.receiver.Receiver.summary.Goals as goal

pub returns : goal.returns
returns g c = λ settings log meanings received feed judged.
    let self = c.args.self.now in
    summed_up settings log meanings self.pair self.lines c.saturating_add.result self.counts c.unfinished.result c.removed.result
    self.telling.ruling.left_out c.args.ends_in_line_feed c.look_exchanged.result received feed (omega arith) c.saturating_add.ensures
    (c.unfinished.ensures (trace settings meanings) received.pair_is) (c.removed.ensures ∙ judged.judged.counted.removed) judged.counted
    (c.look_exchanged.ensures (messages_of_lines MESSAGE_LIMIT settings meanings) (c.sides.ensures ∙ judged.judged.sides))
