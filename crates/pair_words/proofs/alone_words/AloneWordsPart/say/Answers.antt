-- So many bytes are told as the definition takes.
use Rattle.pair_words.proofs.alone_words.AloneWordsPart.say.Goals as goal

pub returns : goal.returns
returns g c = rw (c.min.ensures) at c.say.ensures
