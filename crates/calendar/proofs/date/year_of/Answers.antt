use Rattle.std.proofs.Common.{arith}
use Rattle.calendar.proofs.Days.{no-years, one-year}
use Rattle.calendar.proofs.date.year_of.Goals as goal

pub years-init : goal.years-init
years-init c = record { since = omega arith; slow = omega arith; sum = omega (arith, no-years) }

pub years-preserved : goal.years-preserved
years-preserved c =
    let inv = c.years.invariant in
    let more = one-year c.years.year inv.since in
    let test = c.days_in_year.ensures.value in
    let value = c.days_in_year-left.ensures.value in
    let least = c.days_in_year-left.ensures.least in
    record {
      since = omega (arith, inv.since);
      slow = omega (arith, inv.since, inv.slow, least, test, value, c.years-test.true);
      sum = omega (arith, more, value, test, inv.sum, c.years-test.true);
    }
