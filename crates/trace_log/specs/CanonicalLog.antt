-- The canonical log of some messages: their canonical frames, a line for each.
use Rattle.std.specs.Prelude.{ℕ, ◌+◌, ◌-◌, List, [], ◌∷◌, length, nat_le, Option, if◌then◌else◌}
use Rattle.can_log.specs.Canonical.{canonical_text, canonical_length}
use Rattle.direction.specs.Dir.{Message}
use Rattle.can_log.specs.Log.{log_lines, ended_lines}
use Rattle.direction.specs.declared.Dir.{Dir}
use Rattle.can_log.specs.declared.frame.Stamped.{Stamped}
use Rattle.isotp_segment.specs.Timed.{all_frames}
use Rattle.uds_exchange.specs.Meaning.{flattened}
use Rattle.uds_exchange.specs.Order.{early}
use Rattle.trace_log.specs.Settings.{Settings, id_of}
use Rattle.trace_log.specs.Messages.{messages_of_lines, meaning_of_lines}

-- a line for each frame, the first at n milliseconds and each a millisecond after the one before
unfoldable pub canonical_lines : Settings → ℕ → List (Dir × List ℕ) → List (List ℕ)
canonical_lines settings n [] = []
canonical_lines settings n (frame ∷ later) = canonical_text n (id_of settings frame.0) frame.1 ∷ canonical_lines settings (n + 1) later

-- these lines from 0 on, each with its line feed
unfoldable pub log_of_frames : Settings → List (Dir × List ℕ) → List ℕ
log_of_frames settings frames = ended_lines (canonical_lines settings 0 frames)

-- how many bytes the lines of frames have: each as many as the identifier of its sender requires
abbrev pub lines_size : Settings → List (Dir × List ℕ) → ℕ
lines_size settings [] = 0
lines_size settings (frame ∷ later) = canonical_length (id_of settings frame.0) + lines_size settings later

-- all canonical frames of the messages, spelled in this way
unfoldable pub canonical_log : ℕ → Settings → List Message → List ℕ
canonical_log limit settings messages = log_of_frames settings (all_frames limit messages)

-- the canonical log of a log whose lines mean this: that of the messages of its meaning, in order
abbrev pub canonical_log_of_lines : ℕ → Settings → List (Option Stamped) → List ℕ
canonical_log_of_lines limit settings meanings = canonical_log limit settings (flattened (meaning_of_lines limit settings meanings))

-- the first of the lines, as many as have room in this many bytes with their line feeds
abbrev pub lines_within : ℕ → List (List ℕ) → List (List ℕ)
lines_within room [] = []
lines_within room (line ∷ later) =
    if nat_le (length line + 1) room then line ∷ lines_within (room - (length line + 1)) later else []

-- the longest front, of a text all lines of which are ended, that is whole lines and within the limit
unfoldable pub fitting : Settings → List ℕ → List ℕ
fitting settings text = ended_lines (lines_within settings.max_bytes (log_lines text))

-- what is written before the log ends: the lines of those messages whose place is known, as far as they are within the
-- limit
abbrev pub early_text : ℕ → Settings → List (Option Stamped) → List ℕ
early_text limit settings meanings = fitting settings (canonical_log limit settings (early (messages_of_lines limit settings meanings)))
