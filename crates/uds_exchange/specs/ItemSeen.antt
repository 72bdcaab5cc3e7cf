-- What a caller sees of items, without where they lie in memory.
use Rattle.std.specs.Prelude.{option_map}
use Rattle.uds_exchange.specs.declared.item.Item.{Item}
use Rattle.uds_exchange.specs.declared.item.Item.TheVariants as item
use Rattle.uds_exchange.specs.Meaning.{ItemValue, exchange, stray}

-- an item without where it lies in memory
abbrev pub item_value : Item → ItemValue
item_value (item.Exchange request answer) = exchange request.now (option_map (λ bytes. bytes.now) answer)
item_value (item.Stray dir bytes) = stray dir bytes.now
