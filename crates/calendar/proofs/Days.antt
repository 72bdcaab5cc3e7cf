-- Days of years and of months.
use Rattle.std.proofs.Common.{◌≡◌, ℕ, suc, ◌+◌, ◌-◌, ◌≤◌, ◌<◌, Bool, true, false, arith, ap, ◌∙◌, refl, inl, inr}
use Rattle.std.specs.Prelude.{if◌then◌else◌}
use Rattle.std.proofs.lemmas.Bool.{cases_lt}
use Rattle.calendar.specs.Dates.{days_in_month, days_in_year, days_of_months, days_of_years, is_leap}

-- one year more
pub one-year : (year : ℕ) → 1970 ≤ year → days_of_years (year + 1 - 1970) ≡ days_of_years (year - 1970) + days_in_year year
unfolding days_of_years
one-year year since =
    let next : year + 1 - 1970 ≡ suc (year - 1970) = omega arith in
    let this : 1970 + (year - 1970) ≡ year = omega arith in
    ap days_of_years next ∙ ap (λ (y : ℕ). days_of_years (year - 1970) + days_in_year y) this

-- one month more
pub one-month : (year month : ℕ) → 1 ≤ month → days_of_months year (month + 1 - 1) ≡ days_of_months year (month - 1) + days_in_month year month
unfolding days_of_months
one-month year month from =
    let next : month + 1 - 1 ≡ suc (month - 1) = omega arith in
    let this : suc (month - 1) ≡ month = omega arith in
    ap (days_of_months year) next ∙ ap (λ (m : ℕ). days_of_months year (month - 1) + days_in_month year m) this

-- twelve months are a year
pub twelve-months : (year : ℕ) → days_of_months year 11 + days_in_month year 12 ≡ days_in_year year
unfolding days_of_months
twelve-months year = by (is_leap year)
  where
    by : (leap : Bool) → 31 + (if leap then 29 else 28) + 31 + 30 + 31 + 30 + 31 + 31 + 30 + 31 + 30 + 31 ≡ (if leap then 366 else 365)
    by true = refl
    by false = refl

pub no-years : days_of_years 0 ≡ 0
unfolding days_of_years
no-years = refl

pub no-months : (year : ℕ) → days_of_months year 0 ≡ 0
unfolding days_of_months
no-months year = refl

-- behind the eleventh month less is left than the twelfth has
pub not-thirteen : (year month left days : ℕ) → month ≤ 12 → days < days_in_year year → days_of_months year (month - 1) + left ≡ days
    → days_in_month year month ≤ left → month + 1 ≤ 12
not-thirteen year month left days to within sum more = elim (cases_lt month 12) [
  | inl below ↦ omega arith
  | inr last ↦
      let is : month ≡ 12 = omega arith in
      let all = twelve-months year in
      let here = ap (λ (m : ℕ). days_of_months year (m - 1)) is in
      let dim = ap (days_in_month year) is in
      absurd (omega arith)
]
