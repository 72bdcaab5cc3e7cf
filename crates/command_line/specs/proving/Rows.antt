-- Devices of proof: what the rows of the code are to the parser.
use Rattle.std.specs.Prelude.{List, [], ◌∷◌, ◌++◌, map, Bool, not}
use Rattle.std.specs.List.{flat_map}
use Rattle.clap.specs.Simple.{App, Shape, new_shape, with_subcommand}
use Rattle.clap.specs.Walk.{Rule}
use Rattle.clap.specs.declared.builder.arg.Arg.{Arg}
use Rattle.command_line.specs.Commands.{CommandEntry, file, flag, limit, option, shape_of}
use Rattle.command_line.specs.declared.commands.Argument.{Argument}
use Rattle.command_line.specs.declared.commands.Argument.TheVariants as argument
use Rattle.command_line.specs.declared.commands.CommandRow.{CommandRow}

-- the rule of an option or a file
abbrev pub rule_of_argument : Argument → Rule
rule_of_argument (argument.Text name value help) = option name.now
rule_of_argument (argument.Limit default help) = limit default.now
rule_of_argument (argument.Flag name help) = flag name.now
rule_of_argument (argument.File name is_required help) = file name.now is_required

-- those of a group, one after another
abbrev pub rules_of_group : List Argument → List Rule
rules_of_group group = map rule_of_argument group

-- an option or a file that no subcommand shares
abbrev pub is_unshared : Arg → Bool
is_unshared arg = not arg.global

-- the command of a row
abbrev pub shape_of_row : CommandRow → Shape
shape_of_row row = record (new_shape row.name.now) { rules = flat_map (λ group. rules_of_group group.now) row.arguments.now }

-- a command with these rules more
abbrev pub with_rules : App → List Rule → App
with_rules app rules = record app { top = record app.top { rules = app.top.rules ++ rules } }

-- the program with the commands of these rows more, one after another
abbrev pub with_rows : App → List CommandRow → App
with_rows app [] = app
with_rows app (row ∷ rows) = with_rows (with_subcommand app (shape_of_row row)) rows

-- a program with more commands, by their entries
abbrev pub with_entries : App → List CommandEntry → App
with_entries app [] = app
with_entries app (entry ∷ entries) = with_entries (with_subcommand app (shape_of entry)) entries
