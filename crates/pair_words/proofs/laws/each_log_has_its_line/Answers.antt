-- The law is its lemma of lines.
use Rattle.pair_words.proofs.OwnLines.{each_log_has_its_line}
use Rattle.pair_words.proofs.laws.each_log_has_its_line.Goals as goal

pub returns : goal.returns
returns c = each_log_has_its_line
