-- Devices of proof: what becomes of the open request with one more message.
use Rattle.std.specs.Prelude.{ℕ, List, Option, Some, None}
use Rattle.uds_exchange.specs.declared.step.Step.{Step}
use Rattle.uds_exchange.specs.declared.step.Step.TheVariants as becomes
use Rattle.trace_canon.specs.OpenRequests.{KeptRequest, asked_at}

-- the open request after a message of this step, whose last frame has this time, where it was this before
abbrev pub asked_with : Step → Option KeptRequest → List ℕ → ℕ → Option KeptRequest
asked_with (becomes.Request service) asked bytes micros = Some (asked_at bytes micros)
asked_with becomes.Answer asked bytes micros = None
asked_with becomes.Removed asked bytes micros = asked
asked_with becomes.Hold asked bytes micros = asked
asked_with becomes.Pass asked bytes micros = asked
