use Rattle.std.proofs.Common.{ap}
use Rattle.std.specs.Prelude.{option_map}
use Rattle.profile.specs.UnitKeys.{identifier_of}
use Rattle.command_line.proofs.Configured.{of_values, value_of}
use Rattle.command_line.proofs.settings.of_options.Goals as goal

pub returns : goal.returns
returns c =
    let tester = value_of c.text_of.result _ c.unwrap_or-tester.result _ c.text_of.ensures c.unwrap_or-tester.ensures in
    let unit = value_of c.text_of-2.result _ c.unwrap_or-unit.result _ c.text_of-2.ensures c.unwrap_or-unit.ensures in
    let functional = ap (option_map identifier_of) c.text_of-3.ensures in
    of_values _ _ _ _ _ _ c.limit.result _ c.spelled.result tester unit functional c.limit.ensures c.spelled.ensures
