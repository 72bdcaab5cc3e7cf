-- What is told of words that ask for nothing, as bytes.
use Rattle.std.specs.Prelude.{ℕ, List, codes, string_bytes}
use Rattle.trace_log.specs.declared.fault.ConfigFault.{ConfigFault}
use Rattle.trace_log.specs.declared.fault.ConfigFault.TheVariants as config
use Rattle.command_line.specs.declared.job.WordsFault.{WordsFault}
use Rattle.command_line.specs.declared.job.WordsFault.TheVariants as words

-- the line of a configuration that there is not
abbrev pub config_line : ConfigFault → List ℕ
config_line config.IdRange = codes "identifier out of range\n"
config_line config.SameId = codes "tester and unit have the same identifier\n"
config_line config.SameFunctional = codes "functional identifier is that of tester or unit\n"
config_line config.LimitRange = codes "limit out of range\n"

-- the text of words that ask for nothing: the parser's, as it is, or a line
abbrev pub words_text : WordsFault → List ℕ
words_text (words.Help text) = string_bytes text
words_text (words.Words text) = string_bytes text
words_text words.Identifier = codes "identifier is not three or eight hexadecimal digits\n"
words_text (words.Config reason) = config_line reason
words_text (words.Misfit line) = line.items
words_text (words.Unread line) = line.items
words_text words.Memory = codes "out of memory\n"
