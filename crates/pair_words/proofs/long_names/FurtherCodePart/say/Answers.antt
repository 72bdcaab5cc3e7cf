-- A response code is said by its name in the table of the further ones, or else by its number.
use Rattle.std.proofs.Common.{subst, Some, None}
use Rattle.pair_words.proofs.NameLetters.{further-code}
use Rattle.pair_words.proofs.long_names.FurtherCodePart.say.Goals as goal

pub returns-in-Some : goal.returns-in-Some
returns-in-Some g c =
    subst (λ text. g.S.TextSink.says c.args.out.now text c.say.new.out) (further-code c.args.self.0 (Some c.in-Some.name.now) c.in-Some.ensures)
    c.say.ensures

pub returns-in-None : goal.returns-in-None
returns-in-None g c =
    subst (λ text. g.S.TextSink.says c.args.out.now text c.say-in-None.new.out) (further-code c.args.self.0 None c.in-None.ensures)
    c.say-in-None.ensures
