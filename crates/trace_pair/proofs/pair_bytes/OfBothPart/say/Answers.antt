-- Two messages that are not the same stand byte under byte.
use Rattle.std.proofs.Common.{◌++◌, Bool, subst}
use Rattle.std.specs.Prelude.{if◌then◌else◌}
use Rattle.shown_bytes.specs.Data.{data_text}
use Rattle.trace_report.specs.Items.{message_of}
use Rattle.trace_pair.specs.ItemRows.{both_bytes}
use Rattle.trace_pair.specs.PartedRoles.{parted_role_words}
use Rattle.trace_pair.proofs.pair_bytes.OfBothPart.say.Goals as goal

pub returns-else-eq : goal.returns-else-eq
returns-else-eq g c =
    let rules = c.args.self.0.now in
    let one = message_of c.args.self.1 in
    let other = message_of c.args.self.2 in
    subst (λ (same : Bool). g.S.TextSink.says c.args.out.now
    (parted_role_words one.role one.dir one.bytes ++ (if same then data_text rules one.bytes else both_bytes rules one.bytes other.bytes)) c.say_both_bytes.new.out)
    c.if-eq.ensures (g.met.S.TextSink.onward _ _ _ _ _ c.say.ensures c.say_both_bytes.ensures)
