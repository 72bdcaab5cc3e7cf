-- What is said is the row, by what is repeated and how long the message is.
use Rattle.trace_report.proofs.other_rows.say_other_row.Goals as goal

pub returns : goal.returns
returns g c = rw (c.repeated_count-shown.ensures.value, c.known_length-known.ensures) at c.say.ensures
