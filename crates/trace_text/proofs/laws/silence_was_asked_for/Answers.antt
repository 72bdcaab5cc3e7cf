-- The law is the lemmas of silence: in words, and as JSON.
use Rattle.trace_text.proofs.Silence.{silence_was_asked_for, silence_was_asked_for_in_json}
use Rattle.trace_text.proofs.laws.silence_was_asked_for.Goals as goal

pub returns : goal.returns
returns c = record { words = silence_was_asked_for; json = silence_was_asked_for_in_json }
