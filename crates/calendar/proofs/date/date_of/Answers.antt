use Rattle.std.proofs.Common.{◌+◌, arith}
use Rattle.calendar.specs.Dates.{date}
use Rattle.calendar.proofs.OneDate.{is-after}
use Rattle.calendar.proofs.date.date_of.Goals as goal

pub returns-clause-value : goal.returns-clause-value
returns-clause-value c =
    let year = c.year_of-year.ensures in
    let month = c.month_of-month.ensures in
    is-after (date c.year_of-year.result.0 c.month_of-month.result.0 (c.month_of-month.result.1 + 1)) c.args.days
    (record {
      since = year.since;
      from_january = month.from_january;
      to_december = month.to_december;
      first = omega arith;
      last = omega (arith, month.within);
    })
    (omega (arith, year.sum, month.sum))
