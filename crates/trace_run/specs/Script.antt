-- A command, as a run knows it: what it says of each frame of a log as it comes, at the end and of a refusal, what it
-- may answer, and what memory it needs. Of lines that were read
--   `said_of_lines` is what is said of their frames,
--   `whole_of_lines` that, and what is said at the end,
--   `refusal_of_lines` what is said where behind them something refuses the log,
--   `said_and_refusal_of_lines` that, behind what is said of their frames.
use Rattle.std.specs.Prelude.{◌≡◌, ℕ, List, [], ◌∷◌, ◌++◌, Option, Result, Ok, Bool}
use Rattle.can_log.specs.declared.frame.Stamped.{Stamped}
use Rattle.isotp_receive.specs.Trace.{Entry}
use Rattle.trace_io.specs.declared.device.Source.{Ghosts}
use Rattle.trace_log.specs.declared.fault.Fault.{Fault}
use Rattle.trace_log.specs.declared.summary.Summary.{Summary}
use Rattle.trace_log.specs.Settings.{Settings}
use Rattle.trace_log.specs.Trace.{trace}
use Rattle.trace_log.specs.Summing.{summary_of}
use Rattle.trace_run.specs.declared.machine.Glimpse.{Glimpse}
use Rattle.trace_run.specs.declared.machine.NoAnswer.{NoAnswer}

-- What a command says: of a frame, by the frames before it; and at the end, by all frames and the counts. A strict one
-- refuses a log for a first frame that announces a message above the limit.
pub record Script : Type 0 where
  pub strict : Bool
  pub of_frame : List Entry → Entry → List ℕ
  pub at_the_end : List Entry → Summary → List ℕ

-- what a command says where a line or the limit refuses the log: by the frames and the counts of the lines before, and
-- by the reason
abbrev pub RefusalText : Type 0
RefusalText = List Entry → Summary → Fault → List ℕ

-- the text of a command that says nothing of a refusal
abbrev pub says_no_refusal : RefusalText
says_no_refusal T summary why = []

-- What is seen of a source where a log is refused: its first bytes, as many as it keeps, and whether it is over.
pub record GlimpseValue : Type 0 where
  pub first : List ℕ
  pub is_over : Bool

-- what is seen of a source that stands so after the run
abbrev pub glimpse_of : {R : Type 0} → Ghosts R → R → GlimpseValue
glimpse_of source after = record { first = source.first after; is_over = source.is_over after }

-- what is seen of a source, without where its bytes lie in memory
abbrev pub glimpse_value : Glimpse → GlimpseValue
glimpse_value glimpse = record { first = glimpse.first.now; is_over = glimpse.is_over }

-- what a command may answer at the end of a trace with these counts
abbrev pub Answering : Type 0 → Type 1
Answering A = List Entry → Summary → Result A NoAnswer → Type 0

-- a command of which this holds answers the counts
abbrev pub answers_counts : Answering Summary
answers_counts T summary result = result ≡ Ok summary

-- for which frame a command may be refused memory, by the frames before it
abbrev pub Needing : Type 1
Needing = List Entry → Entry → Type 0

-- a command of which this holds is refused memory for no frame
abbrev pub needs_none : Needing
needs_none T e = ⊥

-- What a run knows of a command: what it says, of a refusal too, what it may answer, and for which frames it may be
-- refused memory.
pub record Command (A : Type 0) : Type 1 where
  pub script : Script
  pub refusal : RefusalText
  pub answers : Answering A
  pub needs : Needing

-- the command of this script, this text of a refusal, these answers and these needs
abbrev pub command : {A : Type 0} → Script → RefusalText → Answering A → Needing → Command A
command script refusal answers needs = record { script = script; refusal = refusal; answers = answers; needs = needs }

-- what is said of these frames, where the frames `past` came before them
abbrev pub said_after : (List Entry → Entry → List ℕ) → List Entry → List Entry → List ℕ
said_after of_frame past [] = []
said_after of_frame past (e ∷ rest) = of_frame past e ++ said_after of_frame (past ++ e ∷ []) rest

-- what is said of the frames of a trace
abbrev pub said_of_frames : (List Entry → Entry → List ℕ) → List Entry → List ℕ
said_of_frames of_frame T = said_after of_frame [] T

-- what is said before the end of a log whose lines mean this
abbrev pub said_of_lines : Script → Settings → List (Option Stamped) → List ℕ
said_of_lines script settings meanings = said_of_frames script.of_frame (trace settings meanings)

-- all that is said of a log whose lines mean this, that at the end too
abbrev pub whole_of_lines : Script → ℕ → Settings → List ℕ → List (Option Stamped) → List ℕ
whole_of_lines script limit settings log meanings =
    said_of_frames script.of_frame (trace settings meanings)
    ++ script.at_the_end (trace settings meanings) (summary_of limit settings log meanings)

-- what is said of a refusal for this reason, after lines that mean this; the counts are those of a log without a last
-- line feed
abbrev pub refusal_of_lines : RefusalText → ℕ → Settings → Fault → List (Option Stamped) → List ℕ
refusal_of_lines refusal limit settings why meanings =
    refusal (trace settings meanings) (summary_of limit settings [] meanings) why

-- all that is said of a log that is refused for this reason, after lines that mean this
abbrev pub said_and_refusal_of_lines : Script → RefusalText → ℕ → Settings → Fault → List (Option Stamped) → List ℕ
said_and_refusal_of_lines script refusal limit settings why meanings =
    said_of_lines script settings meanings ++ refusal_of_lines refusal limit settings why meanings
