-- Devices of proof: the lines of added items that wait for all to be said that is removed at their place.
use Prim.Native.Nat.{zero, suc}
use Rattle.std.specs.Prelude.{ℕ, ◌+◌, List, [], ◌∷◌}
use Rattle.uds_exchange.specs.Meaning.{ItemValue}
use Rattle.uds_rules.specs.Rule.{RuleValue}
use Rattle.trace_difference.specs.Lines.{Line, added_at}

-- the lines of so many items, from this place on
abbrev pub added_lines : List RuleValue → List ItemValue → ℕ → ℕ → List Line
added_lines rules ys from zero = []
added_lines rules ys from (suc count) = added_at rules ys from ∷ added_lines rules ys (from + 1) count
