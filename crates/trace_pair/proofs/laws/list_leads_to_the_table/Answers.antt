-- The law is its lemma of the lines of changes.
use Rattle.trace_pair.proofs.NumberedChanges.{list_leads_to_the_table}
use Rattle.trace_pair.proofs.laws.list_leads_to_the_table.Goals as goal

pub returns : goal.returns
returns c = list_leads_to_the_table
