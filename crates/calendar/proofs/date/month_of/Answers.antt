use Rattle.std.proofs.Common.{arith}
use Rattle.calendar.proofs.Days.{no-months, not-thirteen, one-month}
use Rattle.calendar.proofs.date.month_of.Goals as goal

pub months-init : goal.months-init
months-init c = record { from = omega arith; to = omega arith; sum = omega (arith, no-months c.args.year) }

pub months-preserved : goal.months-preserved
months-preserved c =
    let inv = c.months.invariant in
    let more = one-month c.args.year c.months.month inv.from in
    let test = c.days_in_month.ensures.value in
    let value = c.days_in_month-left.ensures.value in
    record {
      from = omega (arith, inv.from);
      to = not-thirteen c.args.year c.months.month c.months.left c.args.days inv.to c.requires inv.sum (omega (arith, test, c.months-test.true));
      sum = omega (arith, more, value, test, inv.sum, c.months-test.true);
    }
