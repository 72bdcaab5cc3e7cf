-- For which logs memory is needed to keep the second one, and to set both side by side.
use Rattle.std.specs.Prelude.{◌≢◌, ℕ, ◌⊎◌, List, []}
use Rattle.trace_log.specs.Messages.{HasMeaning}
use Rattle.trace_log.specs.Settings.{Settings}
use Rattle.trace_report.specs.Kept.{HasOwnFrame}
use Rattle.uds_exchange.specs.Meaning.{ItemValue}

-- The log is legal, and means an item: one of its frames completes a message.
abbrev pub MeansItem : ℕ → Settings → List ℕ → Type 0
MeansItem limit settings log = (items : List ItemValue) × HasMeaning limit settings log items × (items ≢ [])

-- The first log means an item, or the second one has a frame of one of the two sides. The second is kept, and what
-- stands beside what is of the items of both; memory that is refused for either is told of the second.
abbrev pub NeedsMemoryToAlign : ℕ → Settings → List ℕ → List ℕ → Type 0
NeedsMemoryToAlign limit settings one other = MeansItem limit settings one ⊎ HasOwnFrame settings other
