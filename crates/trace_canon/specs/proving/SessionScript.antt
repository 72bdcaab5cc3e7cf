-- Devices of proof: what is answered with a log's meaning and its counts, where nothing is said of it.
use Rattle.std.specs.Prelude.{◌≡◌, ℕ, ◌+◌, ◌<◌, Bool, true, false, List, [], Option, Some, None, Ok, Err}
use Rattle.isotp_receive.specs.Trace.{Entry}
use Rattle.isotp_receive.specs.Verdict.{messages}
use Rattle.isotp_receive.specs.declared.TheConstants.{MESSAGE_LIMIT}
use Rattle.direction.specs.Dir.{Message}
use Rattle.uds_exchange.specs.Meaning.{ItemValue, meaning, flattened}
use Rattle.uds_exchange.specs.declared.step.Step.{Step}
use Rattle.uds_exchange.specs.declared.step.Step.TheVariants as step
use Rattle.trace_canon.specs.Sessions.{items_of_trace}
use Rattle.trace_log.specs.Settings.{Settings}
use Rattle.uds_rules.specs.Rule.{RuleValue}
use Rattle.trace_log.specs.Messages.{messages_under}
use Rattle.trace_run.specs.Script.{Script, Answering}
use Rattle.trace_run.specs.Spoken.{spoken_counts}
use Rattle.trace_canon.specs.declared.collector.Collected.{Collected}
use Rattle.trace_canon.specs.declared.collector.Session.{Session}
use Rattle.trace_run.specs.declared.machine.NoAnswer.TheVariants.{OutputLimit}
use Rattle.trace_canon.specs.proving.Measuring.{HaveLengths, fits_within}

-- a message with this step is in the meaning
abbrev pub is_in_meaning : Step → Bool
is_in_meaning (step.Request service) = true
is_in_meaning step.Answer = true
is_in_meaning step.Removed = false
is_in_meaning step.Hold = true
is_in_meaning step.Pass = true

-- This is kept of items with a canonical log of this size: all of them, and the room that is left behind it; or
-- nothing, where it is longer than the limit.
abbrev pub IsCollectedOf : ℕ → List ItemValue → ℕ → Option Collected → Type 0
IsCollectedOf limit items size (Some collected) = (collected.pairing ≡ items) × (size + collected.room ≡ limit)
IsCollectedOf limit items size None = limit < size

-- This is kept of what these messages mean.
pub record Collects (settings : Settings) (M : List Message) (collected : Option Collected) (config : Settings)
    : Type 0 where
  pub same : config ≡ settings
  pub size : ℕ
  pub measured : HaveLengths settings (flattened (meaning M)) size
  pub kept : IsCollectedOf settings.max_bytes (meaning M) size collected

-- This is kept of the frames T: what their messages mean under these rules, and of how many of these each rule spoke.
pub record CollectsSession (rules : List RuleValue) (settings : Settings) (T : List Entry) (collected : Option Collected)
    (config : Settings) (spoken : List ℕ) : Type 0 where
  pub collects : Collects settings (messages_under rules MESSAGE_LIMIT T) collected config
  pub ruled : config.rules ≡ rules
  pub counted : spoken ≡ spoken_counts rules (messages MESSAGE_LIMIT T)

-- the script of a machine that says nothing of a log
abbrev pub silent_script : Script
silent_script = record { strict = true; of_frame = λ T e. []; at_the_end = λ T summary. [] }

-- the session is answered where the canonical log is within the limit, and else that it is longer
abbrev pub answers_session : List RuleValue → Settings → Answering Session
answers_session rules settings T summary (Ok session) =
    (session.meaning ≡ items_of_trace MESSAGE_LIMIT rules T) × (session.summary ≡ summary)
    × (fits_within settings (items_of_trace MESSAGE_LIMIT rules T) ≡ true)
    × (session.spoken.items ≡ spoken_counts rules (messages MESSAGE_LIMIT T))
answers_session rules settings T summary (Err OutputLimit) = fits_within settings (items_of_trace MESSAGE_LIMIT rules T) ≡ false
