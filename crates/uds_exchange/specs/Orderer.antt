-- What an orderer is seen as, and what its calls do to it and to the sink.
use Rattle.std.specs.Prelude.{◌≡◌, ℕ, Bool, false, List, [], ◌∷◌, ◌++◌, Option, option_map}
use Rattle.direction.specs.Dir.{Message}
use Rattle.uds_message.specs.Message.{sid}
use Rattle.uds_exchange.specs.declared.order_fault.OrderFault.{OrderFault}
use Rattle.uds_exchange.specs.declared.order_fault.OrderFault.TheVariants as fault
use Rattle.uds_exchange.specs.Order.{open_request, held, early}
use Rattle.uds_exchange.specs.MessageSink.{AfterOk, AfterErr, Puts, Fails}

-- what an orderer is seen as: whether an earlier call ended with a fault of the sink, the first byte of the open
-- request, and the messages that are held behind it
pub record OrdererValue : Type 0 where
  pub has_failed : Bool
  pub open_sid : Option ℕ
  pub holds : List Message

-- an orderer that stands after the messages M
abbrev pub orderer_after : List Message → OrdererValue
orderer_after M = record { has_failed = false; open_sid = option_map sid (open_request M); holds = held M }

-- what an orderer is seen as that is told what becomes of each message: it knows of no request
pub record JudgedOrdererValue : Type 0 where
  pub has_failed : Bool
  pub holds : List Message

-- an orderer that is told what becomes of each message, and stands after the messages M
abbrev pub judged_orderer_after : List Message → JudgedOrdererValue
judged_orderer_after M = record { has_failed = false; holds = held M }

-- these are the messages that one more message brings to their place
abbrev pub IsDue : List Message → Message → List Message → Type 0
IsDue M message due = early (M ++ message ∷ []) ≡ early M ++ due

-- what is due with one more message was put
abbrev pub PutsDue : {Sink : Type 0} → AfterOk Sink → List Message → Message → Sink → Sink → Type 0
PutsDue after_ok M message before after = (due : List Message) × IsDue M message due × Puts after_ok before due after

-- one more message is held, after those that are
abbrev pub IsHeld : List Message → Message → Type 0
IsHeld M message = held (M ++ message ∷ []) ≡ held M ++ message ∷ []

-- what a fault leaves of the sink: of what is due nothing was put where memory was refused, and a proper prefix where
-- the sink failed; no earlier call had failed
abbrev pub StopsDue : {Sink Fault : Type 0} → AfterOk Sink → AfterErr Sink Fault → List Message → Message → Sink → Sink
    → OrderFault Fault → Type 0
StopsDue after_ok after_err M message before after fault.Memory = after ≡ before
StopsDue after_ok after_err M message before after (fault.Sink why) =
    (due : List Message) × IsDue M message due × Fails after_ok after_err before due why after
StopsDue after_ok after_err M message before after fault.Failed = ⊥

-- what a fault leaves of the sink at the end, where these are held: it is the sink's, and a proper prefix was put
abbrev pub StopsHeld : {Sink Fault : Type 0} → AfterOk Sink → AfterErr Sink Fault → List Message → Sink → Sink
    → OrderFault Fault → Type 0
StopsHeld after_ok after_err holds before after fault.Memory = ⊥
StopsHeld after_ok after_err holds before after (fault.Sink why) = Fails after_ok after_err before holds why after
StopsHeld after_ok after_err holds before after fault.Failed = ⊥
