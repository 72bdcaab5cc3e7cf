-- Times of days.
use Rattle.std.specs.Prelude.{◌≡◌, ℕ, ◌+◌, ◌*◌, ◌/◌, ◌%◌, ◌<◌}
use Rattle.calendar.specs.declared.time.CivilTime.{CivilTime}
use Rattle.calendar.specs.Dates.{IsDate, date_after, day_number}

-- a time of a day of the calendar, which is so many seconds after the start of 1970
pub record IsCivilTime (seconds : ℕ) (time : CivilTime) : Type 0 where
  pub date : IsDate time.date
  pub hour : time.hour < 24
  pub minute : time.minute < 60
  pub second : time.second < 60
  pub since : 86400 * day_number time.date + 3600 * time.hour + 60 * time.minute + time.second ≡ seconds

-- the time so many seconds after the start of 1970
abbrev pub time_after : ℕ → CivilTime
time_after seconds =
    record { date = date_after (seconds / 86400); hour = seconds % 86400 / 3600; minute = seconds % 86400 / 60 % 60; second = seconds % 86400 % 60 }
