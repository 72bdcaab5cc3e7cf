use Rattle.std.proofs.Common.{◌∙◌, ap, subst, []}
use Rattle.std.specs.Prelude.{unwrap_or}
use Rattle.line_text.specs.Clipped.{clipped_as_written}
use Rattle.asked_profile.proofs.Told.{text_or}
use Rattle.asked_profile.proofs.wrong_text.RuleAtPart.say.Goals as goal

pub returns : goal.returns
returns g c =
    let bytes = c.as_bytes.ensures.value ∙ ap (λ t. t.now) c.unwrap_or.ensures ∙ text_or c.written_rule.result _ ∙ ap (λ t. unwrap_or t []) c.written_rule.ensures in
    subst (λ text. g.S.TextSink.says c.args.out.now (clipped_as_written text) c.say.new.out) bytes c.say.ensures
