-- What is told is by the tests that the definition names.
use Rattle.trace_pair.proofs.verdict.say_same.Goals as goal

pub returns : goal.returns
returns g c =
    rw (c.look_exchanged.ensures, c.has_request.ensures, c.is_clean.ensures, c.is_clean-2.ensures, c.summary-left.ensures, c.summary-right.ensures, c.as_slice.ensures.value, c.rules.ensures) at c.say.ensures
