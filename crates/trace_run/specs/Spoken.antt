-- Of how many messages rules speak.
use Rattle.std.specs.Prelude.{ℕ, ◌+◌, List, [], ◌∷◌, map, if◌then◌else◌}
use Rattle.direction.specs.Dir.{Message}
use Rattle.uds_rules.specs.Rule.{RuleValue, speaks_of}

-- of how many of these messages a rule speaks, as they were before any rule
abbrev pub spoken_of : RuleValue → List Message → ℕ
spoken_of rule [] = 0
spoken_of rule (sent ∷ later) = (if speaks_of rule sent.1 then 1 else 0) + spoken_of rule later

-- of how many of these messages each rule speaks, in the order of the rules
abbrev pub spoken_counts : List RuleValue → List Message → List ℕ
spoken_counts rules M = map (λ rule. spoken_of rule M) rules
