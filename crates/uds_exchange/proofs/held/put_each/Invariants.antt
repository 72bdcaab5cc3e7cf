-- What is left to be put, behind what was, makes all messages put.
use Rattle.std.proofs.Common.{drop}
use Rattle.uds_exchange.proofs.PuttingMessages.{Onto}
use Rattle.uds_exchange.specs.proving.HeldMessages.{messages_at}
use Rattle.uds_exchange.proofs.held.put_each.Given as goal

abbrev pub invariant-loop-one : goal.invariant-loop-one
invariant-loop-one g l =
    Onto g.S.MessageSink.after_ok g.S.MessageSink.after_err l.sink (messages_at l.messages (drop l.one-index l.held)) l.fn.sink
    (messages_at l.messages l.held)
