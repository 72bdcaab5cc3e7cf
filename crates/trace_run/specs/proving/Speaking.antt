-- Devices of proof: of how many messages each rule spoke, with one message more.
use Rattle.std.specs.Prelude.{ℕ, List, [], ◌∷◌, if◌then◌else◌}
use Rattle.uds_exchange.specs.Judging.{one_more}
use Rattle.uds_rules.specs.Rule.{RuleValue, speaks_of}

-- the counts of these rules, with one more for each that speaks of the message
abbrev pub counts_more : List RuleValue → List ℕ → List ℕ → List ℕ
counts_more [] message counts = counts
counts_more (rule ∷ rules) message [] = []
counts_more (rule ∷ rules) message (count ∷ counts) =
    (if speaks_of rule message then one_more count else count) ∷ counts_more rules message counts
