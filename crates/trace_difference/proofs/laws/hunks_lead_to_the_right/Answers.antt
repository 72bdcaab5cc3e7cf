use Rattle.trace_difference.proofs.Promises.{hunks_lead_to_the_right, listed_lines_are_the_list}
use Rattle.trace_difference.proofs.laws.hunks_lead_to_the_right.Goals as goal

pub returns : goal.returns
returns c = record { hunks = hunks_lead_to_the_right; lines = listed_lines_are_the_list }
