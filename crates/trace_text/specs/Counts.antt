-- Counts: of messages, and those of a log, with what stands before and between.
use Rattle.std.specs.Prelude.{List, ℕ, ◌++◌, ◌==◌, codes, if◌then◌else◌}
use Rattle.std.specs.Fmt.{decimal}
use Rattle.std.specs.List.{flat_map}
use Rattle.trace_log.specs.declared.summary.Count.{Count}

-- the text of a count, from what is before its name on
abbrev pub count_between : List ℕ → List ℕ → Count → List ℕ
count_between before between count = before ++ (count.0.now ++ (between ++ decimal count.1))

-- counts one after another
abbrev pub counts_between : List ℕ → List ℕ → List Count → List ℕ
counts_between before between counts = flat_map (count_between before between) counts

-- so many messages
abbrev pub messages_word : ℕ → List ℕ
messages_word count = if count == 1 then codes "1 message" else decimal count ++ codes " messages"
