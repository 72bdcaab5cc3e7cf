-- Devices of proof: what one more message does to the open request, and to what is held behind it.
use Rattle.std.specs.Prelude.{ℕ, List, [], ◌∷◌, ◌++◌, Option, Some, None}
use Rattle.direction.specs.Dir.{Message}
use Rattle.uds_exchange.specs.declared.step.Step.{Step}
use Rattle.uds_exchange.specs.declared.step.Step.TheVariants as step

-- the first byte of the open request after this step, where it was this before
abbrev pub open_sid_after_step : Step → Option ℕ → Option ℕ
open_sid_after_step (step.Request service) before = Some service
open_sid_after_step step.Answer before = None
open_sid_after_step step.Removed before = before
open_sid_after_step step.Hold before = before
open_sid_after_step step.Pass before = before

-- the messages that are held after this step with a message, where these were before
abbrev pub held_after_step : Step → List Message → Message → List Message
held_after_step (step.Request service) before message = []
held_after_step step.Answer before message = []
held_after_step step.Removed before message = before
held_after_step step.Hold before message = before ++ message ∷ []
held_after_step step.Pass before message = before
