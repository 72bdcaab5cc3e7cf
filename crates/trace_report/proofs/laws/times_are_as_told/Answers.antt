-- The law is the lemmas of what is told of times.
use Rattle.trace_report.proofs.ToldTimes.{after_is_from_the_last_frame, after_is_to_the_first_frame, time_is_of_the_last_frame}
use Rattle.trace_report.proofs.laws.times_are_as_told.Goals as goal

pub returns : goal.returns
returns c = record { time = time_is_of_the_last_frame; after = after_is_to_the_first_frame; asked = after_is_from_the_last_frame }
