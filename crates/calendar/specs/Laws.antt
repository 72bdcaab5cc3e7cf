-- What holds of any dates.
use Rattle.std.specs.Prelude.{◌≡◌}
use Rattle.calendar.specs.declared.date.Date.{Date}
use Rattle.calendar.specs.Dates.{IsDate, day_number}

-- no two dates of the calendar have one number
abbrev pub NumberIsOfOneDate : Type 0
NumberIsOfOneDate = (a b : Date) → IsDate a → IsDate b → day_number a ≡ day_number b → a ≡ b
