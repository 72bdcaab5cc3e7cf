-- The items before this place are equal.
use Rattle.std.proofs.Common.{◌≡◌, take}
use Rattle.uds_exchange.proofs.meaning.Meaning.first_difference.Given as goal

abbrev pub invariant-loop-i : goal.invariant-loop-i
invariant-loop-i l = take l.i l.self ≡ take l.i l.other
