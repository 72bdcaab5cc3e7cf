use Rattle.std.proofs.Common.{◌++◌, subst, codes}
use Rattle.line_text.specs.Clipped.{clipped}
use Rattle.asked_profile.proofs.unit_wrong_text.UnitWrongTextPart.say.Goals as goal

pub returns-in-UnknownKey : goal.returns-in-UnknownKey
returns-in-UnknownKey g c =
    rw c.in-UnknownKey.is
    (subst (λ key. g.S.TextSink.says c.args.out.now (clipped key ++ codes ": unknown key") c.say.new.out) c.as_bytes.ensures.value c.say.ensures)

pub returns-in-NotAName : goal.returns-in-NotAName
returns-in-NotAName g c = rw c.in-NotAName.is c.say-in-NotAName.ensures
