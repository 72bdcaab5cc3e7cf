use Rattle.calendar.proofs.Promises.{number_is_of_one_date}
use Rattle.calendar.proofs.laws.number_is_of_one_date.Goals as goal

pub returns : goal.returns
returns c = number_is_of_one_date
