-- The first lines of a log, and for which of its frames a run needs memory.
use Rattle.std.specs.Prelude.{◌≡◌, ℕ, ◌<◌, ◌⊎◌, true, List, [], ◌∷◌, ◌++◌, length, Option}
use Rattle.can_log.specs.Log.{log_lines, LinesMean}
use Rattle.can_log.specs.declared.frame.Stamped.{Stamped}
use Rattle.isotp_receive.specs.Growth.{MayBeRefused}
use Rattle.isotp_receive.specs.Trace.{Entry}
use Rattle.isotp_receive.specs.Verdict.{message, verdict}
use Rattle.uds_rules.specs.Rule.{RuleValue, is_masked}
use Rattle.trace_log.specs.Settings.{Settings}
use Rattle.trace_log.specs.Trace.{trace}
use Rattle.isotp_receive.specs.Trace.{layout_in}

-- The first lines of the log mean this, one after another.
pub record BeginsWithLines (log : List ℕ) (meanings : List (Option Stamped)) : Type 0 where
  pub lines : List (List ℕ)
  pub later : List (List ℕ)
  pub parts : log_lines log ≡ lines ++ later
  pub means : LinesMean lines meanings

-- The first lines of the log have some text of this kind, of one byte at least.
pub record HasTextOf (text : List (Option Stamped) → List ℕ) (log : List ℕ) : Type 0 where
  pub meanings : List (Option Stamped)
  pub begins : BeginsWithLines log meanings
  pub some : 0 < length (text meanings)

-- A line of the log has a frame of one of the two sides, of which this holds after the frames of the lines before it.
pub record HasFrame (Holds : List Entry → Entry → Type 0) (settings : Settings) (log : List ℕ) : Type 0 where
  pub before : List (Option Stamped)
  pub line : Option Stamped
  pub frame : Entry
  pub begins : BeginsWithLines log (before ++ line ∷ [])
  pub own : trace settings (before ++ line ∷ []) ≡ trace settings before ++ frame ∷ []
  pub holds : Holds (trace settings before) frame

-- The bytes of the frame are kept for a message of several frames: it is a first frame that begins a reception, or a
-- consecutive frame that is stored or completes a message.
abbrev pub IsKeptForMessage : ℕ → List Entry → Entry → Type 0
IsKeptForMessage limit T e = MayBeRefused (layout_in e) (verdict limit T e).verdict

-- The frame completes a message of which rules mask a copy.
abbrev pub CompletesMasked : ℕ → List RuleValue → List Entry → Entry → Type 0
CompletesMasked limit rules T e =
    (bytes : List ℕ) × ((verdict limit T e).verdict ≡ message bytes) × (is_masked rules bytes ≡ true)

-- The bytes of the frame are kept, or it completes a message that is masked: so for a frame a run may need memory
-- before anything is made of its message.
abbrev pub IsKeptOrMasked : ℕ → List RuleValue → List Entry → Entry → Type 0
IsKeptOrMasked limit rules T e = IsKeptForMessage limit T e ⊎ CompletesMasked limit rules T e

-- the log has such a frame
abbrev pub NeedsMemoryToReceive : ℕ → Settings → List ℕ → Type 0
NeedsMemoryToReceive limit settings = HasFrame (IsKeptOrMasked limit settings.rules) settings
