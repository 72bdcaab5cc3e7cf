use Rattle.std.proofs.Common.{◌≡◌, ◌++◌, drop, length}
use Rattle.can_log.specs.Digits.{hexadecimal}
use Rattle.can_log.proofs.digit_lanes.hexadecimal_digits.Given as goal

-- the digits that are missing stand before those that are there
abbrev pub invariant-loop-i : goal.invariant-loop-i
invariant-loop-i g l = record {
  digits : hexadecimal g.row.WIDTH l.fn.number ≡ hexadecimal l.i l.rest ++ drop l.i l.digits;
  length : length l.digits ≡ g.row.WIDTH;
}
