use Rattle.std.proofs.Common.{sym}
use Rattle.uds_rules.proofs.Spellings.{long_text}
use Rattle.uds_rules.proofs.pattern.few_places.Goals as goal

pub returns-then-marks-gt-MOST_MARKS : goal.returns-then-marks-gt-MOST_MARKS
returns-then-marks-gt-MOST_MARKS c = sym (long_text c.args.marks.now c.if-marks-gt-MOST_MARKS.true)
