-- The law is its lemma of the items of rows.
use Rattle.trace_pair.proofs.RowsOnce.{each_item_stands_once}
use Rattle.trace_pair.proofs.laws.each_item_stands_once.Goals as goal

pub returns : goal.returns
returns c = each_item_stands_once
