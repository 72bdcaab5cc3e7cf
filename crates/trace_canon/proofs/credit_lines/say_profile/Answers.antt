-- The first unit, and those behind it.
use Rattle.std.proofs.Common.{subst}
use Rattle.std.specs.List.{flat_map}
use Rattle.trace_canon.specs.CreditLines.{later_unit_text}
use Rattle.trace_canon.proofs.CreditLines.{profile_is}
use Rattle.trace_canon.proofs.credit_lines.say_profile.Goals as goal

pub returns-in-len1-up : goal.returns-in-len1-up
returns-in-len1-up g c =
    subst (λ text. g.S.TextSink.says c.args.out.now text c.say_later_units.new.out)
    (profile_is c.args.lines.now c.first-item.result c.in-len1-up.len_at_least c.first-item.is)
    (g.met.S.TextSink.onward _ _ _ _ _ c.say_unit.ensures
    (subst (λ lines. g.S.TextSink.says c.say_unit.new.out (flat_map later_unit_text lines) c.say_later_units.new.out) c.front.ensures
    c.say_later_units.ensures))
