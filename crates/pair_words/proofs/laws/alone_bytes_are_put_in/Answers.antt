-- The law is its lemma of columns of which no more differ than one message is longer.
use Rattle.pair_words.proofs.AloneBytes.{alone_bytes_are_put_in}
use Rattle.pair_words.proofs.laws.alone_bytes_are_put_in.Goals as goal

pub returns : goal.returns
returns c = alone_bytes_are_put_in
