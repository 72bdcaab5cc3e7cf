-- The messages so far were put; the next one is put, or its fault is handed on.
use Rattle.std.proofs.Common.{sym, subst, ◌∙◌, ap, arith}
use Rattle.direction.specs.declared.Dir.TheVariants.{Tester}
use Rattle.uds_exchange.specs.declared.held.HeldMessage.{HeldMessage}
use Rattle.uds_exchange.specs.Blocks.{bytes_at, IsInside}
use Rattle.uds_exchange.proofs.PuttingMessages.{onto-next, onto-fault, onto-along}
use Rattle.uds_exchange.proofs.HeldMessages.{held-at, next-held}
use Rattle.uds_exchange.proofs.Results.{handed_on}
use Rattle.uds_exchange.proofs.held.put_each.Goals as goal

none : HeldMessage
none = record { len = 0; block = 0; start = 0; dir = Tester }

pub message-requires : goal.message-requires
unfolding none
message-requires g c =
    subst (IsInside c.args.messages.now) (sym c.span.ensures)
    (held-at c.args.messages.now c.args.held.now c.loop-one.one-index none c.requires (omega arith))

pub returns-in_err-put-clause-err : goal.returns-in_err-put-clause-err
unfolding none
returns-in_err-put-clause-err g c =
    let next = next-held c.args.messages.now c.args.held.now c.loop-one.one-index none c.message.result.now (omega arith)
    (c.message.ensures ∙ ap (bytes_at c.args.messages.now) c.span.ensures) in
    handed_on c.from_residual.result _ _ c.from_residual.ensures.1
    (onto-fault g.S.MessageSink.after_ok g.S.MessageSink.after_err _ _ _ _ _ _ _ (c.in_err-put.ensures.err)
    (onto-along g.S.MessageSink.after_ok g.S.MessageSink.after_err _ _ _ _ _ next c.loop-one.invariant))

pub loop-one-preserved : goal.loop-one-preserved
unfolding none
loop-one-preserved g c =
    let next = next-held c.args.messages.now c.args.held.now c.loop-one.one-index none c.message.result.now (omega arith)
    (c.message.ensures ∙ ap (bytes_at c.args.messages.now) c.span.ensures) in
    onto-next g.S.MessageSink.after_ok g.S.MessageSink.after_err _ _ _ _ _ _ (c.in_ok-put.ensures.ok)
    (onto-along g.S.MessageSink.after_ok g.S.MessageSink.after_err _ _ _ _ _ next c.loop-one.invariant)
