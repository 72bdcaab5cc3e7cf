-- What a caller sees of an event, without where a message lies in memory.
use Rattle.isotp_receive.specs.declared.event.Verdict.{Verdict}
use Rattle.isotp_receive.specs.declared.event.Verdict.TheVariants as as_verdict
use Rattle.isotp_receive.specs.declared.event.Event.{Event}
use Rattle.isotp_receive.specs.Verdict.{VerdictValue, message, began, stored, flowed, dropped, EventValue}

-- a verdict
abbrev pub seen_verdict : Verdict → VerdictValue
seen_verdict (as_verdict.Message lent) = message lent.now
seen_verdict as_verdict.Began = began
seen_verdict as_verdict.Stored = stored
seen_verdict as_verdict.Flow = flowed
seen_verdict (as_verdict.Dropped reason) = dropped reason

-- an event
abbrev pub seen_event : Event → EventValue
seen_event event = record { ended = event.ended; verdict = seen_verdict event.verdict }
