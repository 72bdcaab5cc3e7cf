use Rattle.std.proofs.Common.{◌-◌, ◌≡◌, ◌≤◌, length, ◌+◌, drop, take}
use Rattle.std.specs.Str.Parse.{digits_value}
use Rattle.can_log.specs.declared.field.Class.TheVariants.{Digit}
use Rattle.can_log.specs.proving.FieldReader.{run_length}
use Rattle.can_log.proofs.DigitValues.{AreDigits}
use Rattle.can_log.proofs.field.leading_digits.Given as goal

abbrev pub invariant-loop-n : goal.invariant-loop-n
invariant-loop-n l = record {
  within : l.n ≤ length l.bytes;
  below : l.n ≤ l.most;
  so_far : l.n + run_length Digit (l.most - l.n) (drop l.n l.bytes) ≡ run_length Digit l.most l.bytes;
  each : AreDigits (take l.n l.bytes);
  value : l.value ≡ digits_value 10 (take l.n l.bytes);
}

abbrev pub decreases-loop-n : goal.decreases-loop-n
decreases-loop-n l = l.most - l.n
