-- Devices of proof: a meaning that grows by one message, and what the code keeps of it.
use Rattle.std.specs.Prelude.{◌≡◌, ℕ, List, [], ◌∷◌, ◌++◌, Option, Some, None, option_map, if◌then◌else◌, slice_set}
use Rattle.direction.specs.Dir.{Message}
use Rattle.uds_exchange.specs.declared.step.Step.{Step}
use Rattle.uds_exchange.specs.declared.step.Step.TheVariants as step
use Rattle.uds_exchange.specs.Meaning.{ItemValue, exchange, stray_of, is_tester_request, is_answer_to, is_pending_reply_to, meaning}
use Rattle.uds_exchange.specs.Judging.{IsOpenSid}
use Rattle.uds_exchange.specs.proving.OpenExchange.{open_exchange_in}

-- what the code keeps beside the items: the place of the open exchange
abbrev pub IsOpenPlace : List ItemValue → Option ℕ → Type 0
IsOpenPlace items open_place = option_map (λ place. place.0) (open_exchange_in items) ≡ open_place

-- these are the items of some messages, and this is the first byte of the request that is open after them
pub record AreOpenBy (items : List ItemValue) (open_sid : Option ℕ) : Type 0 where
  pub before : List Message
  pub meant : items ≡ meaning before
  pub is_open : IsOpenSid before open_sid

-- the items after this step with a message, where this exchange is open
abbrev pub items_after_step : Step → Option (ℕ × List ℕ) → List ItemValue → Message → List ItemValue
items_after_step (step.Request service) place items message = items ++ exchange message.1 None ∷ []
items_after_step step.Answer None items message = items
items_after_step step.Answer (Some place) items message = slice_set items place.0 (exchange place.1 (Some message.1))
items_after_step step.Removed place items message = items
items_after_step step.Hold place items message = items ++ stray_of message ∷ []
items_after_step step.Pass place items message = items ++ stray_of message ∷ []

-- the items with one more message that is no request, where this exchange is open
abbrev pub items_with_other : Option (ℕ × List ℕ) → List ItemValue → Message → List ItemValue
items_with_other None items message = items ++ stray_of message ∷ []
items_with_other (Some place) items message =
    if is_answer_to place.1 message then slice_set items place.0 (exchange place.1 (Some message.1))
    else if is_pending_reply_to place.1 message then items
    else items ++ stray_of message ∷ []

-- the items with one more message
abbrev pub items_with : List ItemValue → Message → List ItemValue
items_with items message =
    if is_tester_request message then items ++ exchange message.1 None ∷ []
    else items_with_other (open_exchange_in items) items message
