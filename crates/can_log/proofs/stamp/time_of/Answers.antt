use Rattle.std.proofs.Common.{List, ℕ, ap, ◌∙◌}
use Rattle.std.specs.Str.Parse.{digits_value}
use Rattle.can_log.proofs.LaneNumbers.{stamp_value}
use Rattle.can_log.proofs.stamp.time_of.Goals as goal

pub returns : goal.returns
returns c = c.decimal_number.ensures ∙ ap (λ (l : List ℕ). digits_value 10 l) c.stamp_digits.ensures ∙ stamp_value c.args.stamp.now c.requires.long
