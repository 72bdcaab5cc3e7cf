-- What a decider is seen as, and what its calls do to it and to the sink.
use Rattle.std.specs.Prelude.{◌≡◌, ◌⊎◌, ℕ, true, List, ◌∷◌, [], ◌++◌, Option}
use Rattle.direction.specs.Dir.{Message}
use Rattle.uds_exchange.specs.Decided.{decided}
use Rattle.uds_exchange.specs.ItemSink.{AfterItem, PutsItems}
use Rattle.uds_exchange.specs.Meaning.{ItemValue, is_tester_request}
use Rattle.uds_exchange.specs.Order.{open_request, held}
use Rattle.uds_exchange.specs.Orderer.{IsHeld}

-- what a decider is seen as: the open request, and the messages that are held behind it
pub record DeciderValue : Type 0 where
  pub request : Option (List ℕ)
  pub holds : List Message

-- a decider that stands after the messages M
abbrev pub decider_after : List Message → DeciderValue
decider_after M = record { request = open_request M; holds = held M }

-- these are the items that one more message decides
abbrev pub AreDecidedBy : List Message → Message → List ItemValue → Type 0
AreDecidedBy M message items = decided (M ++ message ∷ []) ≡ decided M ++ items

-- what one more message decides was put
abbrev pub PutsDecided : {Sink : Type 0} → AfterItem Sink → List Message → Message → Sink → Sink → Type 0
PutsDecided takes M message before after =
    (items : List ItemValue) × AreDecidedBy M message items × PutsItems takes before items after

-- one more message is kept: it is a request, or it is held
abbrev pub IsKept : List Message → Message → Type 0
IsKept M message = (is_tester_request message ≡ true) ⊎ IsHeld M message
