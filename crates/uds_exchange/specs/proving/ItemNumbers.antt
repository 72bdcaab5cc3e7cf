-- Devices of proof: how many items there are, and which number the open exchange has, with one more message.
use Rattle.std.specs.Prelude.{ℕ, ◌+◌, List, Option, Some, None, option_map}
use Rattle.direction.specs.Dir.{Message}
use Rattle.uds_message.specs.Message.{sid}
use Rattle.uds_exchange.specs.Order.{open_request}
use Rattle.uds_exchange.specs.Judging.{open_number}
use Rattle.uds_exchange.specs.declared.step.Step.{Step}
use Rattle.uds_exchange.specs.declared.step.Step.TheVariants as step

-- the number of the open exchange, if one is open
abbrev pub open_number_if_any : List Message → Option ℕ
open_number_if_any M = option_map (λ service. open_number M) (option_map sid (open_request M))

-- how many items there are after this step, where there were so many
abbrev pub item_count_after_step : Step → ℕ → ℕ
item_count_after_step (step.Request service) count = count + 1
item_count_after_step step.Answer count = count
item_count_after_step step.Removed count = count
item_count_after_step step.Hold count = count + 1
item_count_after_step step.Pass count = count + 1

-- the number of the open exchange after this step with a message whose item has this number, where the open exchange
-- had that number before, if one was open
abbrev pub open_number_after_step : Step → ℕ → Option ℕ → Option ℕ
open_number_after_step (step.Request service) number before = Some number
open_number_after_step step.Answer number before = None
open_number_after_step step.Removed number before = before
open_number_after_step step.Hold number before = before
open_number_after_step step.Pass number before = before
