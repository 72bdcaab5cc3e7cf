-- What becomes of one message, by the request that is open alone.
use Rattle.std.specs.Prelude.{ℕ, not, ◌&&◌, if◌then◌else◌, Option, Some, None}
use Rattle.direction.specs.Dir.{Message}
use Rattle.uds_message.specs.Message.{sid, is_final_for, is_pending_for}
use Rattle.uds_exchange.specs.declared.step.Step.{Step}
use Rattle.uds_exchange.specs.declared.step.Step.TheVariants as step
use Rattle.uds_exchange.specs.Meaning.{is_from_tester, is_tester_request}

-- what becomes of a message that is no request, where this is the first byte of the open request
abbrev pub step_if_open : Option ℕ → Message → Step
step_if_open None message = step.Pass
step_if_open (Some service) message =
    if not (is_from_tester message.0) && is_final_for service message.1 then step.Answer
    else if not (is_from_tester message.0) && is_pending_for service message.1 then step.Removed
    else step.Hold

-- what becomes of a message, where this is the first byte of the open request
abbrev pub step_of : Option ℕ → Message → Step
step_of open_sid message = if is_tester_request message then step.Request (sid message.1) else step_if_open open_sid message
