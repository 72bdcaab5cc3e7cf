-- What is said so far and the letters of the rest are those of the whole name.
use Rattle.std.proofs.Common.{drop}
use Rattle.text_parts.proofs.Promises.{IsLeft}
use Rattle.pair_words.specs.LongNames.{letters_behind, parted_name}
use Rattle.pair_words.proofs.long_names.say_parted.Given as goal

abbrev pub invariant-letters : goal.invariant-letters
invariant-letters g l = IsLeft g.S.TextSink.says l.initial.out (letters_behind l.front (drop l.at l.name)) (parted_name l.name) l.out
