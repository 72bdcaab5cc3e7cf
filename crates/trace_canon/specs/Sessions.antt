-- What the frames of a log mean, and what a call that writes nothing answers of it.
use Rattle.std.specs.Prelude.{◌≡◌, ℕ, List, Option, Result, Ok, Err}
use Rattle.can_log.specs.Log.{LogMeans}
use Rattle.can_log.specs.declared.frame.Stamped.{Stamped}
use Rattle.trace_io.specs.declared.device.Source.{Ghosts as SourceGhosts}
use Rattle.trace_canon.specs.ReadOnly.{RanToRead}
use Rattle.trace_canon.specs.WaysOfReading.{reading_to_collect}
use Rattle.trace_canon.specs.declared.collector.Session.{Session}
use Rattle.trace_log.specs.declared.fault.Fault.{Fault}
use Rattle.isotp_receive.specs.Trace.{Entry}
use Rattle.isotp_receive.specs.Verdict.{messages}
use Rattle.uds_exchange.specs.Meaning.{ItemValue, meaning}
use Rattle.trace_log.specs.Settings.{Settings}
use Rattle.uds_rules.specs.Rule.{RuleValue}
use Rattle.trace_log.specs.Messages.{messages_under, HasMeaning}
use Rattle.trace_log.specs.Outcome.{Accepted, IsOutcome}
use Rattle.trace_log.specs.Answers.{TellsOutcome}
use Rattle.trace_log.specs.Trace.{trace}
use Rattle.trace_run.specs.Spoken.{spoken_counts}
use Rattle.trace_log.specs.declared.summary.Summary.{Summary}

-- what the trace means under rules
abbrev pub items_of_trace : ℕ → List RuleValue → List Entry → List ItemValue
items_of_trace limit rules T = meaning (messages_under rules limit T)

-- The log is legal, and so many of its messages each rule of the settings speaks of, as they were before any rule.
pub record HasSpoken (limit : ℕ) (settings : Settings) (log : List ℕ) (spoken : List ℕ) : Type 0 where
  pub meanings : List (Option Stamped)
  pub means : LogMeans log meanings
  pub found : spoken ≡ spoken_counts settings.rules (messages limit (trace settings meanings))

-- The log is accepted, with this meaning and this summary.
pub record IsAcceptedWith (limit : ℕ) (settings : Settings) (log : List ℕ) (items : List ItemValue) (summary : Summary)
    : Type 0 where
  pub accepted : Accepted
  pub outcome : IsOutcome limit settings log (Ok accepted)
  pub means : HasMeaning limit settings log items
  pub counted : accepted.summary ≡ summary

-- The log is accepted, and this is its session: its meaning, its summary, and of how many of its messages each rule
-- speaks.
pub record IsSessionOf (limit : ℕ) (settings : Settings) (log : List ℕ) (session : Session) : Type 0 where
  pub accepted : IsAcceptedWith limit settings log session.meaning session.summary
  pub spoken : HasSpoken limit settings log session.spoken.items

-- What a call answers: the session of an accepted log, or why the log is refused.
abbrev pub GivesSession : ℕ → Settings → List ℕ → Result Session Fault → Type 0
GivesSession limit settings log (Ok session) = IsSessionOf limit settings log session
GivesSession limit settings log (Err fault) = TellsOutcome limit settings log fault

-- what a call answers that gives the meaning of an accepted log alone, or why the log is refused
abbrev pub GivesMeaning : ℕ → Settings → List ℕ → Result (List ItemValue) Fault → Type 0
GivesMeaning limit settings log (Ok items) = (summary : Summary) × IsAcceptedWith limit settings log items summary
GivesMeaning limit settings log (Err fault) = TellsOutcome limit settings log fault

-- the run of a call that collects the items of a log and answers so
abbrev pub RanToCollect : {R A : Type 0} → SourceGhosts R → (ℕ → Settings → List ℕ → Result A Fault → Type 0) → ℕ → Settings
    → R → Result A Fault → R → Type 0
RanToCollect source Gives limit settings = RanToRead source (Gives limit settings) (reading_to_collect limit settings)
