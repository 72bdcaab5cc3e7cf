-- Dates of the Gregorian calendar.
use Prim.Native.Nat.{zero, suc}
use Rattle.std.specs.Prelude.{ℕ, ◌+◌, ◌-◌, ◌%◌, ◌≤◌, Bool, not, ◌&&◌, ◌||◌, nat_eq, nat_lt, if◌then◌else◌}
use Rattle.calendar.specs.declared.date.Date.{Date}

-- a leap year: each fourth one, but of the hundredth ones each fourth alone
abbrev pub is_leap : ℕ → Bool
is_leap year = nat_eq (year % 4) 0 && (not (nat_eq (year % 100) 0) || nat_eq (year % 400) 0)

abbrev pub days_in_year : ℕ → ℕ
days_in_year year = if is_leap year then 366 else 365

abbrev pub days_in_month : ℕ → ℕ → ℕ
days_in_month year month =
    if nat_eq month 2 then (if is_leap year then 29 else 28)
    else if nat_eq month 4 || nat_eq month 6 || nat_eq month 9 || nat_eq month 11 then 30
    else 31

-- how many days the years from 1970 on have, so many of them
unfoldable pub days_of_years : ℕ → ℕ
days_of_years zero = 0
days_of_years (suc years) = days_of_years years + days_in_year (1970 + years)

-- how many days the first months of a year have, so many of them
unfoldable pub days_of_months : ℕ → ℕ → ℕ
days_of_months year zero = 0
days_of_months year (suc months) = days_of_months year months + days_in_month year (suc months)

-- a date since 1970 that the calendar has
pub record IsDate (date : Date) : Type 0 where
  pub since : 1970 ≤ date.year
  pub from_january : 1 ≤ date.month
  pub to_december : date.month ≤ 12
  pub first : 1 ≤ date.day
  pub last : date.day ≤ days_in_month date.year date.month

-- how many days lie between a date and the first of January 1970
abbrev pub day_number : Date → ℕ
day_number date = days_of_years (date.year - 1970) + days_of_months date.year (date.month - 1) + (date.day - 1)

abbrev pub date : ℕ → ℕ → ℕ → Date
date year month day = record { year = year; month = month; day = day }

-- the day after
abbrev pub next_day : Date → Date
next_day today =
    if nat_lt today.day (days_in_month today.year today.month) then date today.year today.month (today.day + 1)
    else if nat_lt today.month 12 then date today.year (today.month + 1) 1
    else date (today.year + 1) 1 1

-- the date so many days after the first of January 1970
unfoldable pub date_after : ℕ → Date
date_after zero = date 1970 1 1
date_after (suc days) = next_day (date_after days)
