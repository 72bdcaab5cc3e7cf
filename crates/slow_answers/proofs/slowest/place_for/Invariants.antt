-- The places so far, and that among the rest, are the place among all.
use Rattle.std.proofs.Common.{◌≡◌, ◌+◌, length}
use Rattle.slow_answers.specs.Slowest.{place_for}
use Rattle.slow_answers.proofs.slowest.place_for.Given as goal

abbrev pub invariant-answers : goal.invariant-answers
invariant-answers l = (l.place + place_for l.micros l.rest ≡ place_for l.micros l.answers) × (l.place + length l.rest ≡ length l.answers)

abbrev pub decreases-answers : goal.decreases-answers
decreases-answers l = length l.rest
