use Rattle.std.proofs.Common.{map}
use Rattle.std.specs.Prelude.{string_bytes}
use Rattle.command_line.specs.Commands.{words_or_normalise}
use Rattle.udsnorm.proofs.serve.Goals as goal

pub returns : goal.returns
returns g c =
    let seen = c.read_words-asked.ensures.asked.0 in
    let planned = c.read_words-asked.ensures.asked.2 in
    record {
      served = record {
        seen = seen;
        profile = c.read_words-asked.ensures.asked.1;
        asked = c.read_words-asked.result;
        known = c.run_words-end.result.known;
        begun = c.tell_awaited.new.err;
        told = c.run_words-end.new.err;
        awaited =
            let awaited = rw c.is_awaited.ensures at c.tell_awaited.ensures in
            record {
              line = λ wanted none. awaited.told wanted none (map string_bytes c.args.words.now) seen planned;
              only_there = awaited.unwanted;
              only_behind = awaited.failed;
            };
        did = c.run_words-end.ensures.run (words_or_normalise (map string_bytes c.args.words.now)) seen planned;
        hinted = rw (← c.is_hinted.ensures) c.hint_where_wanted.ensures.hinted;
      };
    }
