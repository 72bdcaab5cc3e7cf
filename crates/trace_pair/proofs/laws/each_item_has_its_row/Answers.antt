-- The law is its lemma of rows that are found.
use Rattle.trace_pair.proofs.FoundRows.{each_item_has_its_row}
use Rattle.trace_pair.proofs.laws.each_item_has_its_row.Goals as goal

pub returns : goal.returns
returns c = each_item_has_its_row
