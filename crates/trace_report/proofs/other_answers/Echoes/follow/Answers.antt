-- One more row may ask something, or tell an answer that is other than was asked.
use Rattle.std.proofs.Common.{ap, sym, ◌∙◌}
use Rattle.trace_report.specs.OtherAnswers.{asked_with}
use Rattle.trace_report.specs.Rows.{row_of}
use Rattle.trace_report.proofs.OtherAnswers.{asked_next}
use Rattle.trace_report.proofs.other_answers.Echoes.follow.Goals as goal

pub returns : goal.returns
returns c = λ rules before few stood is. record {
  asked = c.keep_asked.ensures.asked ∙ ap (λ asked. asked_with asked (row_of c.args.row)) stood.asked ∙ sym (asked_next before (row_of c.args.row));
  others = c.keep_asked.ensures.others ∙ c.count_if.ensures rules before few stood.others is;
}
