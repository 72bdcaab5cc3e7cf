use Rattle.std.proofs.Common.{◌∙◌}
use Rattle.can_log.proofs.WrittenDigits.{sixteen}
use Rattle.can_log.proofs.digit_lanes.decimal_digits.Goals as goal

pub returns : goal.returns
returns c =
    let lanes = rw c.base_hundred-hundreds.ensures at c.digits_of_values.ensures in
    lanes ∙ sixteen c.args.number
