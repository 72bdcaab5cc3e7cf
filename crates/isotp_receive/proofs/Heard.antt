-- The messages of one direction that a trace delivers, each with the position of the frame that completes it.
use Rattle.std.specs.Prelude.{ℕ, suc, List, [], ◌∷◌, ◌++◌, if◌then◌else◌}
use Rattle.isotp_receive.specs.declared.channel.Channel.{Channel}
use Rattle.isotp_receive.specs.Trace.{Entry}
use Rattle.isotp_receive.specs.Verdict.{VerdictValue, message, began, stored, flowed, dropped, verdict}
use Rattle.isotp_receive.specs.Channels.{same_channel}

-- the message that a frame at this position completes, with the position
abbrev pub placed : ℕ → VerdictValue → List (ℕ × List ℕ)
placed position (message bytes) = (position, bytes) ∷ []
placed position began = []
placed position stored = []
placed position flowed = []
placed position (dropped reason) = []

-- those of the frames from this position on, where `past` stands before them
abbrev pub heard : ℕ → Channel → ℕ → List Entry → List Entry → List (ℕ × List ℕ)
heard limit d position past [] = []
heard limit d position past (e ∷ rest) =
    (if same_channel d e.channel then placed position (verdict limit past e).verdict else [])
    ++ heard limit d (suc position) (past ++ e ∷ []) rest
