-- Each letter is said behind those before it.
use Rattle.std.proofs.Common.{refl}
use Rattle.text_parts.proofs.Promises.{none-said}
use Rattle.pair_words.proofs.NameLetters.{turn-end, turn-letter}
use Rattle.pair_words.proofs.long_names.say_parted.Goals as goal

pub letters-init : goal.letters-init
letters-init g c = none-said g.S.TextSink.says c.args.out.now _ _ (g.met.S.TextSink.nothing c.args.out.now) refl

pub letters-preserved : goal.letters-preserved
letters-preserved g c =
    turn-letter g.S.TextSink.says g.met.S.TextSink.onward c.args.name.now c.args.out.now _ c.letters.front c.letters.at c.letters.out c.say_letter.new.out
    c.letters-test.true c.letters.invariant c.say_letter.ensures

pub returns : goal.returns
returns g c =
    turn-end g.S.TextSink.says g.met.S.TextSink.onward c.args.name.now c.args.out.now _ c.letters.front c.letters.at c.letters.out
    c.letters-test.false c.letters.invariant
