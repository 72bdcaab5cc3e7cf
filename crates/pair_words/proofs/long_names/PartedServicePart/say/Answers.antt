-- A service is said by its name in the table, or else by its number.
use Rattle.std.proofs.Common.{◌∙◌, ap, subst, Some, None}
use Rattle.pair_words.specs.LongNames.{parted_name}
use Rattle.pair_words.proofs.NameLetters.{parted-service}
use Rattle.pair_words.proofs.long_names.PartedServicePart.say.Goals as goal

pub returns-in-Some : goal.returns-in-Some
returns-in-Some g c =
    subst (λ text. g.S.TextSink.says c.args.out.now text c.say_parted.new.out)
    (ap parted_name c.as_bytes.ensures.value ∙ parted-service c.args.self.0 (Some c.in-Some.name.now) c.in-Some.ensures) c.say_parted.ensures

pub returns-in-None : goal.returns-in-None
returns-in-None g c =
    subst (λ text. g.S.TextSink.says c.args.out.now text c.say.new.out) (parted-service c.args.self.0 None c.in-None.ensures) c.say.ensures
