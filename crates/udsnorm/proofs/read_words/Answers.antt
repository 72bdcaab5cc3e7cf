use Rattle.std.proofs.Common.{map}
use Rattle.std.specs.Prelude.{string_bytes}
use Rattle.command_line.specs.Commands.{words_or_normalise}
use Rattle.udsnorm.proofs.read_words.Goals as goal

pub returns : goal.returns
returns g c = record {
  asked = (
    c.seen_profile-profile.result,
    c.seen_profile-profile.ensures.seen (words_or_normalise (map string_bytes c.args.words.now)) (c.found-parsed.ensures.matches, c.found-parsed.ensures.kinds),
    c.plan.ensures.words (c.found-parsed.ensures.matches, c.found-parsed.ensures.kinds),
  );
}
