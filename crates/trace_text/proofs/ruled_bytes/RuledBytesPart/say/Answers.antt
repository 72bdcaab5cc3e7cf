-- The text of a message of which no rule may speak is that of its bytes.
use Rattle.std.proofs.Common.{sym, subst}
use Rattle.trace_text.specs.RuledText.{text_by}
use Rattle.trace_text.proofs.ruled_bytes.RuledBytesPart.say.Goals as goal

pub returns-else-may_speak_of : goal.returns-else-may_speak_of
returns-else-may_speak_of g c =
    subst (λ mask. g.S.TextSink.says c.args.out.now (text_by mask c.args.self.message.now) c.say.new.out)
    (sym (c.may_speak_of.ensures.masked c.if-may_speak_of.false)) c.say.ensures
