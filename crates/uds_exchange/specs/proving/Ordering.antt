-- Devices of proof: what an orderer does with one more message.
use Rattle.std.specs.Prelude.{List, [], ◌∷◌, ◌++◌, ◌≡◌, true, false}
use Rattle.direction.specs.Dir.{Message}
use Rattle.uds_exchange.specs.declared.step.Step.{Step}
use Rattle.uds_exchange.specs.declared.step.Step.TheVariants as step
use Rattle.uds_exchange.specs.declared.order_fault.OrderFault.{OrderFault}
use Rattle.uds_exchange.specs.declared.order_fault.OrderFault.TheVariants as fault
use Rattle.uds_exchange.specs.MessageSink.{AfterOk, AfterErr, Fails}
use Rattle.uds_exchange.specs.Orderer.{JudgedOrdererValue}
use Rattle.uds_exchange.specs.proving.Steps.{held_after_step}

-- the messages that have their place by this step with a message, where these are held
abbrev pub due_for : Step → List Message → Message → List Message
due_for (step.Request service) holds message = holds ++ message ∷ []
due_for step.Answer holds message = message ∷ holds
due_for step.Removed holds message = []
due_for step.Hold holds message = []
due_for step.Pass holds message = message ∷ []

-- what the orderer is after this step with a message
abbrev pub orderer_after_step : Step → JudgedOrdererValue → Message → JudgedOrdererValue
orderer_after_step became orderer message = record orderer { holds = held_after_step became orderer.holds message }

-- what a fault leaves, at this step with a message; memory is refused only where the message would be held
abbrev pub Stops : {Sink Fault : Type 0} → AfterOk Sink → AfterErr Sink Fault → Step → Message
    → JudgedOrdererValue → Sink → JudgedOrdererValue → Sink → OrderFault Fault → Type 0
Stops after_ok after_err became message old before new after fault.Memory =
    (old.has_failed ≡ false) × (new ≡ old) × (after ≡ before) × (became ≡ step.Hold)
Stops after_ok after_err became message old before new after (fault.Sink why) =
    (old.has_failed ≡ false) × (new.has_failed ≡ true)
    × Fails after_ok after_err before (due_for became old.holds message) why after
Stops after_ok after_err became message old before new after fault.Failed =
    (old.has_failed ≡ true) × (new ≡ old) × (after ≡ before)
