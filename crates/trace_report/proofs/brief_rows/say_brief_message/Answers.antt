-- What needs no attention has a brief row.
use Rattle.std.proofs.Common.{sym, ◌∙◌}
use Rattle.trace_report.proofs.brief_rows.say_brief_message.Goals as goal

pub returns-else-message_needs_attention : goal.returns-else-message_needs_attention
returns-else-message_needs_attention g c =
    rw (sym c.message_needs_attention.ensures ∙ c.if-message_needs_attention.false) c.say.ensures
