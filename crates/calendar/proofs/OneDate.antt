-- A number is that of one date alone.
use Rattle.std.proofs.Common.{◌≡◌, ℕ, zero, suc, ◌+◌, ◌-◌, ◌≤◌, ◌<◌, arith, ap, sym, ◌∙◌, inl, inr}
use Rattle.std.proofs.lemmas.Bool.{cases_lt}
use Rattle.calendar.specs.declared.date.Date.{Date}
use Rattle.calendar.specs.Dates.{IsDate, date_after, day_number, days_in_year, days_of_months, days_of_years}
use Rattle.calendar.specs.Laws.{NumberIsOfOneDate}
use Rattle.calendar.proofs.Days.{one-month, one-year, twelve-months}
use Rattle.calendar.proofs.NextDays.{after-is}

-- more years have more days, and more months
years-grow : (more years : ℕ) → days_of_years years ≤ days_of_years (more + years)
unfolding days_of_years
years-grow zero years = let same : zero + years ≡ years = omega arith in omega (arith, ap days_of_years same)
years-grow (suc more) years =
    let next : suc more + years ≡ suc (more + years) = omega arith in
    let rest = years-grow more years in
    omega (arith, ap days_of_years next)

pub years-more : (m n : ℕ) → m ≤ n → days_of_years m ≤ days_of_years n
years-more m n h = let sum : (n - m) + m ≡ n = omega arith in let grow = years-grow (n - m) m in omega (arith, ap days_of_years sum)

months-grow : (year more months : ℕ) → days_of_months year months ≤ days_of_months year (more + months)
unfolding days_of_months
months-grow year zero months = let same : zero + months ≡ months = omega arith in omega (arith, ap (days_of_months year) same)
months-grow year (suc more) months =
    let next : suc more + months ≡ suc (more + months) = omega arith in
    let rest = months-grow year more months in
    omega (arith, ap (days_of_months year) next)

pub months-more : (year m n : ℕ) → m ≤ n → days_of_months year m ≤ days_of_months year n
months-more year m n h = let sum : (n - m) + m ≡ n = omega arith in let grow = months-grow year (n - m) m in omega (arith, ap (days_of_months year) sum)

-- a date lies within its month, and within its year
in-month : (here : Date) → IsDate here → days_of_months here.year (here.month - 1) + (here.day - 1) < days_of_months here.year (here.month + 1 - 1)
in-month here is =
    let more = one-month here.year here.month is.from_january in
    let first = is.first in
    let last = is.last in
    omega arith

in-year : (here : Date) → IsDate here → days_of_months here.year (here.month - 1) + (here.day - 1) < days_in_year here.year
in-year here is =
    let within = in-month here is in
    let all = twelve-months here.year in
    let to = is.to_december in
    let twelve = one-month here.year 12 (omega arith) in
    let most = months-more here.year (here.month + 1 - 1) (12 + 1 - 1) (omega arith) in
    omega arith

-- of two dates of one number none is in an earlier year
no-earlier-year : (a b : Date) → IsDate a → IsDate b → day_number a ≡ day_number b → b.year ≤ a.year
no-earlier-year a b is_a is_b same = elim (cases_lt a.year b.year) [
  | inr later ↦ later
  | inl earlier ↦
      let within = in-year a is_a in
      let more = one-year a.year is_a.since in
      let since = is_a.since in
      let most = years-more (a.year + 1 - 1970) (b.year - 1970) (omega arith) in
      absurd (omega arith)
]

-- of one year none is in an earlier month
no-earlier-month : (a b : Date) → IsDate a → IsDate b → a.year ≡ b.year → day_number a ≡ day_number b → b.month ≤ a.month
no-earlier-month a b is_a is_b year same = elim (cases_lt a.month b.month) [
  | inr later ↦ later
  | inl earlier ↦
      let within = in-month a is_a in
      let from = is_a.from_january in
      let most = months-more a.year (a.month + 1 - 1) (b.month - 1) (omega arith) in
      let years = ap (λ (y : ℕ). days_of_years (y - 1970)) year in
      let months = ap (λ (y : ℕ). days_of_months y (b.month - 1)) year in
      absurd (omega arith)
]

pub number_is_of_one_date : NumberIsOfOneDate
number_is_of_one_date a b is_a is_b same =
    let one = no-earlier-year a b is_a is_b same in
    let other = no-earlier-year b a is_b is_a (sym same) in
    let year : a.year ≡ b.year = omega arith in
    let this = no-earlier-month a b is_a is_b year same in
    let that = no-earlier-month b a is_b is_a (sym year) (sym same) in
    let month : a.month ≡ b.month = omega arith in
    let years = ap (λ (y : ℕ). days_of_years (y - 1970)) year in
    let months = ap (λ (y : ℕ). days_of_months y (b.month - 1)) year in
    let month_too = ap (λ (m : ℕ). days_of_months a.year (m - 1)) month in
    let first = is_a.first in
    let other_first = is_b.first in
    let day : a.day ≡ b.day = omega arith in
    λ i. record { year = year i; month = month i; day = day i }

pub is-after : (here : Date) (days : ℕ) → IsDate here → day_number here ≡ days → here ≡ date_after days
is-after here days is number = number_is_of_one_date here (date_after days) is (after-is days).date (number ∙ sym (after-is days).number_is)
