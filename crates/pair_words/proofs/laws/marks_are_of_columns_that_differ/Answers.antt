-- The law is its lemma of what is seen of cells.
use Rattle.pair_words.proofs.SeenMarks.{marks_are_of_columns_that_differ}
use Rattle.pair_words.proofs.laws.marks_are_of_columns_that_differ.Goals as goal

pub returns : goal.returns
returns c = marks_are_of_columns_that_differ
