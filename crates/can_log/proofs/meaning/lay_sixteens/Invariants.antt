use Rattle.std.proofs.Common.{◌≡◌, ◌*◌, take, length}
use Rattle.can_log.specs.Line.{bytes_spelled}
use Rattle.can_log.proofs.meaning.lay_sixteens.Given as goal

abbrev pub invariant-loop-i : goal.invariant-loop-i
invariant-loop-i l = (take (8 * l.i) l.bytes ≡ bytes_spelled (take (16 * l.i) l.digits)) × (length l.digits ≡ 2 * length l.bytes)
