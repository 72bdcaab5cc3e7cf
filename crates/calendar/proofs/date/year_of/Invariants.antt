use Rattle.std.proofs.Common.{◌≡◌, ◌+◌, ◌-◌, ◌*◌, ◌≤◌}
use Rattle.calendar.specs.Dates.{days_of_years}
use Rattle.calendar.proofs.date.year_of.Given as goal

abbrev pub invariant-years : goal.invariant-years
invariant-years l = record {
  since : 1970 ≤ l.year;
  slow : 365 * (l.year - 1970) + l.left ≤ l.days;
  sum : days_of_years (l.year - 1970) + l.left ≡ l.days;
}

abbrev pub decreases-years : goal.decreases-years
decreases-years l = l.left
