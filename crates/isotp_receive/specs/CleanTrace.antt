-- A trace in which nothing went wrong, by what the receptions answer.
use Rattle.std.specs.Prelude.{None, ◌≡◌, ℕ, List, [], ◌∷◌, ◌++◌, ⊤}
use Rattle.direction.specs.declared.Dir.{Dir}
use Rattle.isotp_receive.specs.Channels.{channel_of}
use Rattle.isotp_receive.specs.Trace.{Entry}
use Rattle.isotp_receive.specs.StandingReception.{stands}
use Rattle.isotp_receive.specs.Verdict.{VerdictValue, message, began, stored, flowed, dropped, EventValue, verdict}

-- the frame was not dropped
abbrev pub IsKept : VerdictValue → Type 0
IsKept (dropped reason) = ⊥
IsKept (message bytes) = ⊤
IsKept began = ⊤
IsKept stored = ⊤
IsKept flowed = ⊤

-- the frame was not dropped, and no reception ended without its message
pub record IsCleanEvent (answer : EventValue) : Type 0 where
  pub goes_on : answer.ended ≡ None
  pub kept : IsKept answer.verdict

-- each of the frames is answered so, where `past` came before them
abbrev pub EachClean : ℕ → List Entry → List Entry → Type 0
EachClean limit past [] = ⊤
EachClean limit past (e ∷ rest) = IsCleanEvent (verdict limit past e) × EachClean limit (past ++ e ∷ []) rest

-- No frame of the trace is dropped, none ends a reception, and nothing stands at its end.
pub record IsClean (limit : ℕ) (T : List Entry) : Type 0 where
  pub each : EachClean limit [] T
  pub finished : (d : Dir) → stands limit (channel_of d) T ≡ None
