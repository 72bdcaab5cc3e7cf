-- Each message that is shown lies in a block.
use Rattle.std.proofs.Common.{sym, subst, arith}
use Rattle.direction.specs.declared.Dir.TheVariants.{Tester}
use Rattle.uds_exchange.specs.declared.held.HeldMessage.{HeldMessage}
use Rattle.uds_exchange.specs.Blocks.{IsInside}
use Rattle.uds_exchange.specs.proving.HeldMessages.{AreHeldIn}
use Rattle.uds_exchange.proofs.HeldMessages.{held-at}
use Rattle.uds_exchange.proofs.shown.ShownBytesDebug.fmt.Goals as goal

none : HeldMessage
none = record { len = 0; block = 0; start = 0; dir = Tester }

pub message-requires : goal.message-requires
unfolding none
message-requires g c =
    subst (IsInside c.held.inside.messages) (sym c.span.ensures)
    (held-at c.held.inside.messages c.as_slice-each.result.now c.loop-one.one-index none
    (subst (AreHeldIn c.held.inside.messages) (sym c.as_slice-each.ensures.value) c.held.invariant.inside) (omega arith))
