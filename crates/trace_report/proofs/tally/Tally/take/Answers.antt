-- One more row is one more of its sort, and one more target of that.
use Rattle.std.proofs.Common.{◌∙◌}
use Rattle.trace_report.specs.Rows.{row_of}
use Rattle.trace_report.specs.proving.Tallying.{counts_with, first_with}
use Rattle.trace_report.proofs.Tallies.{tally_next}
use Rattle.trace_report.proofs.tally.Tally.take.Goals as goal

pub returns : goal.returns
returns c = λ rows few stood.
    tally_next rows (row_of c.args.row) few c.take.new.self c.take-2.new.self
    (c.take.ensures ∙ (λ i. counts_with (c.sort_of-sort.ensures i) (stood i).counts))
    (c.take-2.ensures ∙ (λ i. first_with (c.sort_of-sort.ensures i) (c.target_of.ensures i) (stood i).first))
