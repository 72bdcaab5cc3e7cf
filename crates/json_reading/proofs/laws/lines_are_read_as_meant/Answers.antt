use Rattle.json_reading.proofs.PlainObjects.{items_are_read_as_meant, messages_are_read_as_meant, remarks_are_read_as_meant, comparisons_are_read_as_meant, pairs_are_read_as_meant}
use Rattle.json_reading.proofs.laws.lines_are_read_as_meant.Goals as goal

pub returns-clause-items : goal.returns-clause-items
returns-clause-items c = items_are_read_as_meant

pub returns-clause-messages : goal.returns-clause-messages
returns-clause-messages c = messages_are_read_as_meant

pub returns-clause-remarks : goal.returns-clause-remarks
returns-clause-remarks c = remarks_are_read_as_meant

pub returns-clause-comparisons : goal.returns-clause-comparisons
returns-clause-comparisons c = comparisons_are_read_as_meant

pub returns-clause-pairs : goal.returns-clause-pairs
returns-clause-pairs c = pairs_are_read_as_meant
