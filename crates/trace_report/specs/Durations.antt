-- Times as differences, in seconds and in milliseconds.
use Rattle.std.specs.Prelude.{ℕ, ◌/◌, List, [], ◌++◌, codes, nat_le, if◌then◌else◌}
use Rattle.std.specs.Fmt.{decimal}
use Rattle.std.specs.Int.{abs_diff}
use Rattle.trace_text.specs.Words.{stamp_text}
use Rattle.can_log.specs.Digits as digits

-- a duration in milliseconds: a dot, three digits, and the unit, from which no line break parts it
abbrev pub milliseconds_text : ℕ → List ℕ
milliseconds_text micros = decimal (micros / 1000) ++ codes "." ++ digits.decimal 3 micros ++ codes "&#160;ms"

-- the sign of the duration from one time to another: a minus where the clock of the log went back
abbrev pub sign_text : ℕ → ℕ → List ℕ
sign_text start end = if nat_le start end then [] else codes "-"

-- the duration from one time to another, in seconds
abbrev pub seconds_between : ℕ → ℕ → List ℕ
seconds_between start end = sign_text start end ++ stamp_text (abs_diff start end)

-- the duration from one time to another, in milliseconds
abbrev pub milliseconds_between : ℕ → ℕ → List ℕ
milliseconds_between start end = sign_text start end ++ milliseconds_text (abs_diff start end)
