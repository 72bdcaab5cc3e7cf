-- The law is its lemma of the two parts of the columns.
use Rattle.byte_columns.proofs.PutIn.{only_put_in}
use Rattle.byte_columns.proofs.laws.only_put_in.Goals as goal

pub returns : goal.returns
returns c = only_put_in
