-- One day after another.
use Rattle.std.proofs.Common.{◌≡◌, ℕ, zero, suc, ◌+◌, ◌-◌, ◌≤◌, ◌<◌, Bool, true, false, arith, ap, refl}
use Rattle.std.specs.Prelude.{nat_lt, nat_eq, ◌||◌, if◌then◌else◌}
use Rattle.std.proofs.lemmas.Bool.{ltb-true, ltb-false}
use Rattle.calendar.specs.declared.date.Date.{Date}
use Rattle.calendar.specs.Dates.{IsDate, date, date_after, day_number, days_in_month, days_of_months, is_leap, next_day}
use Rattle.calendar.proofs.Days.{no-months, no-years, one-month, one-year, twelve-months}

-- each month has a day
pub some-days : (year month : ℕ) → 1 ≤ days_in_month year month
some-days year month = by (nat_eq month 2) (is_leap year) (nat_eq month 4 || nat_eq month 6 || nat_eq month 9 || nat_eq month 11)
  where
    by : (second leap short : Bool) → 1 ≤ (if second then (if leap then 29 else 28) else if short then 30 else 31)
    by true true short = omega arith
    by true false short = omega arith
    by false leap true = omega arith
    by false leap false = omega arith

-- a date of this number, that the calendar has
pub record IsNumbered (number : ℕ) (here : Date) : Type 0 where
  pub date : IsDate here
  pub number_is : day_number here ≡ number

-- within a month
same-month : (today : Date) → IsDate today → today.day < days_in_month today.year today.month → IsNumbered (day_number today + 1) (date today.year today.month (today.day + 1))
same-month today is below =
    let first = is.first in
    record {
      date = record { since = is.since; from_january = is.from_january; to_december = is.to_december; first = omega arith; last = omega arith };
      number_is = omega arith;
    }

-- from a month to the next
next-month : (today : Date) → IsDate today → days_in_month today.year today.month ≤ today.day → today.month < 12
    → IsNumbered (day_number today + 1) (date today.year (today.month + 1) 1)
next-month today is past below =
    let from = is.from_january in
    let first = is.first in
    let last = is.last in
    let more = one-month today.year today.month is.from_january in
    let some = some-days today.year (today.month + 1) in
    record {
      date = record { since = is.since; from_january = omega arith; to_december = omega arith; first = omega arith; last = some };
      number_is = omega arith;
    }

-- from a year to the next
next-year : (today : Date) → IsDate today → days_in_month today.year today.month ≤ today.day → 12 ≤ today.month
    → IsNumbered (day_number today + 1) (date (today.year + 1) 1 1)
next-year today is past december =
    let since = is.since in
    let to = is.to_december in
    let first = is.first in
    let last = is.last in
    let twelve : today.month ≡ 12 = omega arith in
    let more = one-year today.year is.since in
    let all = twelve-months today.year in
    let before = ap (λ (m : ℕ). days_of_months today.year (m - 1)) twelve in
    let long = ap (days_in_month today.year) twelve in
    let some = some-days (today.year + 1) 1 in
    let none = no-months (today.year + 1) in
    record {
      date = record { since = omega arith; from_january = omega arith; to_december = omega arith; first = omega arith; last = some };
      number_is = omega arith;
    }

next-by-month : (today : Date) → IsDate today → days_in_month today.year today.month ≤ today.day → (below : Bool) → nat_lt today.month 12 ≡ below
    → IsNumbered (day_number today + 1) (if below then date today.year (today.month + 1) 1 else date (today.year + 1) 1 1)
next-by-month today is past true e = next-month today is past (ltb-true today.month 12 e)
next-by-month today is past false e = next-year today is past (ltb-false today.month 12 e)

next-by-day : (today : Date) → IsDate today → (below : Bool) → nat_lt today.day (days_in_month today.year today.month) ≡ below
    → IsNumbered (day_number today + 1)
    (if below then date today.year today.month (today.day + 1) else if nat_lt today.month 12 then date today.year (today.month + 1) 1 else date (today.year + 1) 1 1)
next-by-day today is true e = same-month today is (ltb-true today.day (days_in_month today.year today.month) e)
next-by-day today is false e = next-by-month today is (ltb-false today.day (days_in_month today.year today.month) e) (nat_lt today.month 12) refl

pub next-is : (today : Date) → IsDate today → IsNumbered (day_number today + 1) (next_day today)
next-is today is = next-by-day today is (nat_lt today.day (days_in_month today.year today.month)) refl

first-is : IsNumbered 0 (date 1970 1 1)
first-is =
    let none = no-years in
    let no = no-months 1970 in
    let some = some-days 1970 1 in
    record {
      date = record { since = omega arith; from_january = omega arith; to_december = omega arith; first = omega arith; last = some };
      number_is = omega arith;
    }

pub after-is : (days : ℕ) → IsNumbered days (date_after days)
unfolding date_after
after-is zero = first-is
after-is (suc days) =
    let before = after-is days in
    let next = next-is (date_after days) before.date in
    let number = next.number_is in
    let so_far = before.number_is in
    record { date = next.date; number_is = omega arith }
