-- The law is the lemma of the numbers of rows, and that of what is judged of one more message.
use Rattle.uds_exchange.proofs.Promises.{number_stays_its_place}
use Rattle.trace_report.proofs.RowNumbers.{row_numbers_are_places}
use Rattle.trace_report.proofs.laws.numbers_are_places.Goals as goal

pub returns : goal.returns
returns c = record { rows = row_numbers_are_places; lines = λ M more sent start end. number_stays_its_place M more sent }
