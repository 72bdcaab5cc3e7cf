-- One more row may tell one more answer, and may be one more request.
use Rattle.std.proofs.Common.{ap, sym, ◌∙◌}
use Rattle.trace_report.specs.AnswerTimes.{answer_told, answers_in, request_with}
use Rattle.trace_report.specs.Rows.{row_of}
use Rattle.trace_report.proofs.WaitedAnswers.{request_next, slowest_next}
use Rattle.trace_report.proofs.answer_times.AnswerTimes.note.Goals as goal

pub returns : goal.returns
returns c = λ rows stood.
    let row = row_of c.args.row in
    record {
      last = c.request_with-self.ensures ∙ ap (λ last. request_with last row) stood.last ∙ sym (request_next rows row);
      slowest = c.take_if_told.ensures (answers_in rows) stood.slowest
          ∙ slowest_next rows row c.answer_told.result (c.answer_told.ensures ∙ ap (λ last. answer_told last row) stood.last);
    }
