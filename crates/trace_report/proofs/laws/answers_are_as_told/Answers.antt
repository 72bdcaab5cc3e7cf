-- The law is the lemma of what is told of answers.
use Rattle.trace_report.proofs.ToldAnswers.{negative_is_negative}
use Rattle.trace_report.proofs.laws.answers_are_as_told.Goals as goal

pub returns : goal.returns
returns c = record { negative = negative_is_negative }
