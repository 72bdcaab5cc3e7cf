use Rattle.std.proofs.Common.{◌≡◌, ◌+◌, ◌-◌, ◌≤◌}
use Rattle.calendar.specs.Dates.{days_of_months}
use Rattle.calendar.proofs.date.month_of.Given as goal

abbrev pub invariant-months : goal.invariant-months
invariant-months l = record {
  from : 1 ≤ l.month;
  to : l.month ≤ 12;
  sum : days_of_months l.year (l.month - 1) + l.left ≡ l.days;
}

abbrev pub decreases-months : goal.decreases-months
decreases-months l = l.left
