-- The law is its lemma of columns that count.
use Rattle.pair_words.proofs.CountedBytes.{each_byte_is_counted}
use Rattle.pair_words.proofs.laws.each_byte_is_counted.Goals as goal

pub returns : goal.returns
returns c = each_byte_is_counted
