use Rattle.std.proofs.Common.{ap, ap₂, ◌∙◌}
use Rattle.std.proofs.lemmas.Result.{IfOk-weaker}
use Rattle.command_line.specs.Advice.{all_values_line, line_of_values, values_line}
use Rattle.command_line.proofs.Configured.{value_of}
use Rattle.command_line.proofs.advice.given_line.Goals as goal

pub returns-in-Some : goal.returns-in-Some
returns-in-Some c =
    let tester = value_of c.text_of.result _ c.unwrap_or-tester.result _ c.text_of.ensures c.unwrap_or-tester.ensures in
    let unit = value_of c.text_of-2.result _ c.unwrap_or-unit.result _ c.text_of-2.ensures c.unwrap_or-unit.ensures in
    IfOk-weaker c.all_values_line.result _ _
    (λ line is. is ∙ ap₂ (λ t u. all_values_line t u c.in-Some.functional.now) tester unit ∙ ap (line_of_values _ _) c.in-Some.ensures)
    c.all_values_line.ensures

pub returns-in-None : goal.returns-in-None
returns-in-None c =
    let tester = value_of c.text_of.result _ c.unwrap_or-tester.result _ c.text_of.ensures c.unwrap_or-tester.ensures in
    let unit = value_of c.text_of-2.result _ c.unwrap_or-unit.result _ c.text_of-2.ensures c.unwrap_or-unit.ensures in
    IfOk-weaker c.values_line.result _ _ (λ line is. is ∙ ap₂ values_line tester unit ∙ ap (line_of_values _ _) c.in-None.ensures) c.values_line.ensures
