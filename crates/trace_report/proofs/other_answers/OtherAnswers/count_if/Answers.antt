-- One more row is one more such answer, where it tells one.
use Rattle.std.proofs.Common.{ap, sym, ◌∙◌, ◌++◌, ◌∷◌, [], take}
use Rattle.uds_exchange.specs.Judging.{one_more}
use Rattle.trace_report.specs.Rows.{row_of}
use Rattle.trace_report.specs.Sorts.{most_links}
use Rattle.trace_report.specs.declared.other_answers.OtherAnswers.{OtherAnswers}
use Rattle.trace_report.proofs.OtherAnswers.{others_next, others_still}
use Rattle.trace_report.proofs.other_answers.OtherAnswers.count_if.Goals as goal

pub returns-then-other : goal.returns-then-other
returns-then-other c = λ rules before few stood is.
    others_next rules before (row_of c.args.row) few (sym c.if-other.true ∙ is) _
    (c.one_more-self.ensures ∙ ap (λ (others : OtherAnswers). one_more others.count) stood)
    (c.push_if_room.ensures ∙ (λ i. take most_links ((stood i).first.items ++ c.target_of.ensures i ∷ [])))

pub returns-else-other : goal.returns-else-other
returns-else-other c = λ rules before few stood is. stood ∙ others_still rules before (row_of c.args.row) (sym c.if-other.false ∙ is)
