-- The columns are those of both messages.
use Rattle.std.proofs.Common.{ℕ, List, ap, subst}
use Rattle.pair_words.specs.ByteWords.{where_words}
use Rattle.pair_words.proofs.byte_words.ByteWordsPart.say.Goals as goal

pub returns : goal.returns
returns g c =
    let rules = c.args.self.0.now in
    let left = c.args.self.1.now in
    let right = c.args.self.2.now in
    g.met.S.TextSink.onward _ _ _ _ _
    (subst (λ (text : List ℕ). g.S.TextSink.says c.args.out.now text c.say_where.new.out) (ap (where_words rules left right) c.of-columns.ensures) c.say_where.ensures)
    c.say_lengths.ensures
