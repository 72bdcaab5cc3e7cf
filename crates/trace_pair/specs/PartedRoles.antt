-- What messages are to their items, in words, of which names may be parted.
use Rattle.std.specs.Prelude.{ℕ, List, ◌++◌, codes}
use Rattle.direction.specs.declared.Dir.{Dir}
use Rattle.uds_message.specs.Message.{response_code, sid}
use Rattle.trace_report.specs.MessageRows.{role_words}
use Rattle.trace_report.specs.declared.roles.MessageRole.{MessageRole}
use Rattle.trace_report.specs.declared.roles.MessageRole.TheVariants as role
use Rattle.pair_words.specs.LongNames.{parted_code, parted_service}

-- what a message is to its item, in words, of which a name may be parted
abbrev pub parted_role_words : MessageRole → Dir → List ℕ → List ℕ
parted_role_words role.Request d bytes = codes "<b>" ++ parted_service (sid bytes) ++ codes "</b> <i>request</i> "
parted_role_words (role.Positive asked) d bytes = role_words (role.Positive asked) d bytes
parted_role_words (role.Negative asked) d bytes = codes "<b>negative</b> <em>" ++ parted_code (response_code bytes) ++ codes "</em> "
parted_role_words (role.Pending asked) d bytes = role_words (role.Pending asked) d bytes
parted_role_words role.KeepAlive d bytes = role_words role.KeepAlive d bytes
parted_role_words role.Stray d bytes = role_words role.Stray d bytes
