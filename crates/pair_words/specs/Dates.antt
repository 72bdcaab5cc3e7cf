-- When a log was, by the calendar where its stamps are dates.
use Rattle.std.specs.Prelude.{ℕ, ◌/◌, Bool, ◌&&◌, List, ◌++◌, codes, nat_le, nat_lt, if◌then◌else◌}
use Rattle.can_log.specs.Digits as digits
use Rattle.calendar.specs.declared.time.CivilTime.{CivilTime}
use Rattle.calendar.specs.Times.{time_after}
use Rattle.trace_text.specs.Words.{stamp_text}

-- a time of a day, by the calendar
abbrev pub civil_text : CivilTime → List ℕ
civil_text time =
    digits.decimal 4 time.date.year ++ codes "-" ++ digits.decimal 2 time.date.month ++ codes "-" ++ digits.decimal 2 time.date.day ++ codes "&#160;"
    ++ digits.decimal 2 time.hour ++ codes ":" ++ digits.decimal 2 time.minute ++ codes ":" ++ digits.decimal 2 time.second ++ codes "&#160;UTC"

-- the stamp of a log is told with its date from March 1973 up to the year 9999: a log that counts from power-on has
-- less
abbrev pub has_date : ℕ → Bool
has_date micros = nat_le 100000000 (micros / 1000000) && nat_lt (micros / 1000000) 253402300800

-- a time of a log: its date, where it has one, and its stamp
abbrev pub when_text : ℕ → List ℕ
when_text micros =
    if has_date micros then codes "<span class=\"nw\">" ++ civil_text (time_after (micros / 1000000)) ++ codes "</span> <i>(" ++ stamp_text micros ++ codes ")</i>"
    else codes "<span class=\"nw\">" ++ stamp_text micros ++ codes "</span>"
