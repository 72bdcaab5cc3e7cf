use Rattle.std.proofs.Common.{ap, true, ◌∙◌}
use Rattle.std.proofs.lemmas.Result.{IfOk-weaker}
use Rattle.clap.specs.Simple.{App, app_of_fields}
use Rattle.command_line.proofs.command.program.Goals as goal

-- the settings of the program
abbrev without_name : App → App
without_name a = record a { top = record a.top { no_binary_name = true } }

abbrev without_help_command : App → App
without_help_command a = record a { top = record a.top { disable_help_subcommand = true } }

abbrev with_needed_command : App → App
with_needed_command a = record a { top = record a.top { subcommand_required = true } }

abbrev with_version : App → App
with_version a = record a { top = record a.top { has_version = true } }

pub returns : goal.returns
returns c =
    let nameless = ap app_of_fields c.no_binary_name.ensures ∙ ap without_name c.new.ensures.app in
    let helpless = ap app_of_fields c.disable_help_subcommand.ensures ∙ ap without_help_command nameless in
    let needing = ap app_of_fields c.subcommand_required.ensures ∙ ap with_needed_command helpless in
    let versioned = ap app_of_fields c.version.ensures ∙ ap with_version needing in
    let bare = ap app_of_fields c.after_help.ensures ∙ ap app_of_fields c.about.ensures ∙ versioned in
    IfOk-weaker c.bin_name.result _ _ (λ made named. ap app_of_fields named.0 ∙ bare) c.bin_name.ensures
