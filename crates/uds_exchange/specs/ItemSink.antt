-- Items put into a sink, whose implementation says which values of it may follow an item.
use Rattle.std.specs.Prelude.{◌≡◌, List, [], ◌∷◌}
use Rattle.uds_exchange.specs.Meaning.{ItemValue}

-- which values of a sink may follow an item: the value before, the item, the value after
abbrev pub AfterItem : Type 0 → Type 1
AfterItem Sink = Sink → ItemValue → Sink → Type 0

-- each of the items was put, one after another: so the sink went from the one value to the other
abbrev pub PutsItems : {Sink : Type 0} → AfterItem Sink → Sink → List ItemValue → Sink → Type 0
PutsItems takes before [] after = after ≡ before
PutsItems {Sink = Sink} takes before (item ∷ later) after =
    (between : Sink) × takes before item between × PutsItems takes between later after
