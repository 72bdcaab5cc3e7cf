use Rattle.std.proofs.Common.{◌++◌, subst, codes}
use Rattle.line_text.specs.Clipped.{clipped}
use Rattle.asked_profile.proofs.wrong_text.WrongTextPart.say.Goals as goal

pub returns-in-UnknownKey : goal.returns-in-UnknownKey
returns-in-UnknownKey g c =
    rw c.in-UnknownKey.is
    (subst (λ key. g.S.TextSink.says c.args.out.now (clipped key ++ codes ": unknown key") c.say.new.out) c.as_bytes.ensures.value c.say.ensures)

pub returns-in-NotStrings : goal.returns-in-NotStrings
returns-in-NotStrings g c =
    rw c.in-NotStrings.is
    (subst (λ key. g.S.TextSink.says c.args.out.now (key ++ codes ": not an array of strings") c.say-in-NotStrings.new.out) c.rule_key_text.ensures c.say-in-NotStrings.ensures)

pub returns-in-NotUnits : goal.returns-in-NotUnits
returns-in-NotUnits g c = rw c.in-NotUnits.is c.say-in-NotUnits.ensures

pub returns-in-ManyRules : goal.returns-in-ManyRules
returns-in-ManyRules g c = rw c.in-ManyRules.is c.say-in-ManyRules.ensures

pub returns-in-ManyUnits : goal.returns-in-ManyUnits
returns-in-ManyUnits g c = rw c.in-ManyUnits.is c.say-in-ManyUnits.ensures
