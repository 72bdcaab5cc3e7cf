-- The messages of a log, and what they mean. A log is given by what its lines mean, in order.
use Rattle.std.specs.Prelude.{◌≡◌, ℕ, List, Option}
use Rattle.direction.specs.Dir.{Message}
use Rattle.can_log.specs.Log.{LogMeans}
use Rattle.can_log.specs.declared.frame.Stamped.{Stamped}
use Rattle.isotp_receive.specs.Trace.{Entry}
use Rattle.isotp_receive.specs.Verdict.{messages}
use Rattle.uds_rules.specs.Rule.{RuleValue}
use Rattle.uds_rules.specs.Under.{under}
use Rattle.uds_exchange.specs.Meaning.{ItemValue, meaning}
use Rattle.trace_log.specs.Settings.{Settings}
use Rattle.trace_log.specs.Trace.{trace}

-- what rules make of the messages that a trace delivers: these stand between reception and pairing, for both sides
abbrev pub messages_under : List RuleValue → ℕ → List Entry → List Message
messages_under rules limit T = under rules (messages limit T)

-- the messages of a log: those that its trace delivers, under the rules
abbrev pub messages_of_lines : ℕ → Settings → List (Option Stamped) → List Message
messages_of_lines limit settings meanings = messages_under settings.rules limit (trace settings meanings)

-- their exchanges and strays
abbrev pub meaning_of_lines : ℕ → Settings → List (Option Stamped) → List ItemValue
meaning_of_lines limit settings meanings = meaning (messages_of_lines limit settings meanings)

-- the log is legal, and this is its meaning
pub record HasMeaning (limit : ℕ) (settings : Settings) (log : List ℕ) (items : List ItemValue) : Type 0 where
  pub meanings : List (Option Stamped)
  pub means : LogMeans log meanings
  pub found : items ≡ meaning_of_lines limit settings meanings
