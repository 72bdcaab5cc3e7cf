-- Devices of proof: what a decider does with one more message.
use Rattle.std.specs.Prelude.{◌≡◌, ◌⊎◌, ℕ, List, [], ◌∷◌, Option, Some, None, option_map}
use Rattle.direction.specs.Dir.{Message}
use Rattle.uds_message.specs.Message.{sid}
use Rattle.uds_exchange.specs.Decided.{exchange_items}
use Rattle.uds_exchange.specs.Decider.{DeciderValue}
use Rattle.uds_exchange.specs.Meaning.{ItemValue, stray_of}
use Rattle.uds_exchange.specs.OneMessage.{step_of}
use Rattle.uds_exchange.specs.proving.Steps.{held_after_step}
use Rattle.uds_exchange.specs.declared.step.Step.{Step}
use Rattle.uds_exchange.specs.declared.step.Step.TheVariants as step

-- the items that are decided by this step with a message
abbrev pub decided_for : Step → DeciderValue → Message → List ItemValue
decided_for (step.Request service) decider message = exchange_items decider.request None decider.holds
decided_for step.Answer decider message = exchange_items decider.request (Some message.1) decider.holds
decided_for step.Removed decider message = []
decided_for step.Hold decider message = []
decided_for step.Pass decider message = stray_of message ∷ []

-- what becomes of a message by the open request of a decider
abbrev pub step_in : DeciderValue → Message → Step
step_in decider message = step_of (option_map sid decider.request) message

-- the items that one more message decides
abbrev pub decided_by : DeciderValue → Message → List ItemValue
decided_by decider message = decided_for (step_in decider message) decider message

-- the open request after this step with a message, where it was this before
abbrev pub request_after_step : Step → Option (List ℕ) → Message → Option (List ℕ)
request_after_step (step.Request service) before message = Some message.1
request_after_step step.Answer before message = None
request_after_step step.Removed before message = before
request_after_step step.Hold before message = before
request_after_step step.Pass before message = before

-- what the decider is after this step with a message
abbrev pub decider_after_step : Step → DeciderValue → Message → DeciderValue
decider_after_step became decider message = record {
  request = request_after_step became decider.request message;
  holds = held_after_step became decider.holds message;
}

-- what the decider is with one more message
abbrev pub decider_with : DeciderValue → Message → DeciderValue
decider_with decider message = decider_after_step (step_in decider message) decider message

-- a message begins an exchange by this step
abbrev pub Begins : Step → Type 0
Begins became = (service : ℕ) × (became ≡ step.Request service)

-- the message of this step is kept, so that memory can be refused: it is a request, or is held
abbrev pub Keeps : Step → Type 0
Keeps became = Begins became ⊎ (became ≡ step.Hold)
