-- The commands of the program: the options and files of each, as the parser takes them, and the task that it asks for. A
-- command is one entry of `command_entries`.
use Rattle.std.specs.Prelude.{Bool, true, false, List, [], ◌∷◌, ◌++◌, map, Some, None, Option, codes, bytes_eq, if◌then◌else◌}
use Rattle.clap.specs.Faults.{fault_of}
use Rattle.clap.specs.Kinds.{Kinds}
use Rattle.clap.specs.Simple.{App, Shape, new_rule, new_shape, subcommand_of}
use Rattle.clap.specs.Walk.{Row, Rule, Text, first_of}
use Rattle.clap.specs.declared.builder.action.ArgAction.TheVariants.{SetTrue}
use Rattle.clap.specs.declared.builder.value_parser.ValueParser.TheVariants.{Unsigned}
use Rattle.command_line.specs.Values.{comparison_style_in, credit_style_in, notation_in, style_in}
use Rattle.command_line.specs.declared.commands.Job.TheVariants as job
use Rattle.command_line.specs.declared.commands.PairJob.{PairJob}
use Rattle.command_line.specs.declared.commands.PairJob.TheVariants as pair_job
use Rattle.command_line.specs.declared.commands.Task.{Task}
use Rattle.command_line.specs.declared.commands.Task.TheVariants as task

-- ---- options and files

-- an option of one value
abbrev pub option : Text → Rule
option name = record (new_rule name) { long = Some name; value_names = 1 }

-- the option of the limit, a number of 64 bits, with what it is where it is not given
abbrev pub limit : Text → Rule
limit default = record (option (codes "limit")) { defaults = default ∷ []; parser = Some (Unsigned 0 18446744073709551615) }

-- an option without a value
abbrev pub flag : Text → Rule
flag name = record (new_rule name) { long = Some name; action = Some SetTrue }

-- a file, which has to be named or may be
abbrev pub file : Text → Bool → Rule
file name is_required = record (new_rule name) { required = is_required }

-- the identifiers of both sides and that of functional requests, or a profile and one of its units
abbrev pub sides : List Rule
sides =
    option (codes "tester") ∷ option (codes "unit") ∷ option (codes "functional") ∷ option (codes "profile") ∷ option (codes "only") ∷ []

-- the limit, which is a gibibyte where none is given
abbrev pub usual_limit : List Rule
usual_limit = limit (codes "1073741824") ∷ []

-- the limit, which is the largest one where none is given
abbrev pub largest_limit : List Rule
largest_limit = limit (codes "1099511627776") ∷ []

-- that lines have no numbers
abbrev pub without_numbers : List Rule
without_numbers = flag (codes "no-numbers") ∷ []

-- that a log has to be clean
abbrev pub strictly : List Rule
strictly = flag (codes "strict") ∷ []

-- that hints are told, wherever
abbrev pub hinted : List Rule
hinted = flag (codes "hints") ∷ []

-- that the items are shown at which two logs differ
abbrev pub showing : List Rule
showing = flag (codes "show") ∷ []

-- that each line is an object of JSON
abbrev pub as_json : List Rule
as_json = flag (codes "json") ∷ []

-- that the units are those of a profile, in TOML
abbrev pub as_toml : List Rule
as_toml = flag (codes "toml") ∷ []

-- a log that may be named
abbrev pub one_log : List Rule
one_log = file (codes "LOG") false ∷ []

-- one log that may be named, or two
abbrev pub one_or_two_logs : List Rule
one_or_two_logs = file (codes "LOG") false ∷ file (codes "OTHER") false ∷ []

-- two logs that have to be named
abbrev pub two_logs : List Rule
two_logs = file (codes "A") true ∷ file (codes "B") true ∷ []

-- ---- the commands

-- the task of `report`: over two logs where a second one is named
abbrev pub report_task : Option Text → Task
report_task None = task.One job.Report
report_task (Some other) = task.Two pair_job.Report

-- a command: its name, its options and files, and its task, by what they are given
pub record CommandEntry : Type 0 where
  pub name : Text
  pub rules : List Rule
  pub task : List Row → Task

-- all of them, in the order of the program's help
abbrev pub command_entries : List CommandEntry
command_entries =
    record { name = codes "normalise"; rules = sides ++ usual_limit ++ one_log ++ strictly ++ hinted; task = λ rows. task.One job.Normalise }
    ∷ record { name = codes "list"; rules = sides ++ usual_limit ++ one_log ++ without_numbers ++ as_json ++ strictly ++ hinted; task = λ rows. task.One (job.List (style_in rows)) }
    ∷ record { name = codes "watch"; rules = sides ++ largest_limit ++ one_log ++ without_numbers ++ as_json ++ strictly ++ hinted; task = λ rows. task.One (job.Watch (style_in rows)) }
    ∷ record { name = codes "explain"; rules = sides ++ usual_limit ++ one_log ++ as_json ++ strictly ++ hinted; task = λ rows. task.One (job.Explain (notation_in rows)) }
    ∷ record { name = codes "messages"; rules = sides ++ largest_limit ++ one_log ++ as_json ++ strictly ++ hinted; task = λ rows. task.One (job.Messages (notation_in rows)) }
    ∷ record { name = codes "report"; rules = sides ++ largest_limit ++ one_or_two_logs ++ strictly ++ hinted; task = λ rows. report_task (first_of (codes "OTHER") rows) }
    ∷ record { name = codes "find"; rules = usual_limit ++ one_log ++ as_json ++ as_toml ++ hinted; task = λ rows. task.One (job.Find (credit_style_in rows)) }
    ∷ record { name = codes "compare"; rules = sides ++ usual_limit ++ two_logs ++ showing ++ as_json ++ strictly ++ hinted; task = λ rows. task.Two (pair_job.Compare (comparison_style_in rows)) }
    ∷ record { name = codes "diff"; rules = sides ++ usual_limit ++ two_logs ++ as_json ++ strictly ++ hinted; task = λ rows. task.Two (pair_job.Diff (notation_in rows)) }
    ∷ []

-- ---- the files of two logs

-- what the parser calls the left file of this job
abbrev pub left_file : PairJob → Text
left_file (pair_job.Compare style) = codes "A"
left_file (pair_job.Diff notation) = codes "A"
left_file pair_job.Report = codes "LOG"

-- and the right one
abbrev pub right_file : PairJob → Text
right_file (pair_job.Compare style) = codes "B"
right_file (pair_job.Diff notation) = codes "B"
right_file pair_job.Report = codes "OTHER"

-- ---- the program

-- a command as the parser takes it
abbrev pub shape_of : CommandEntry → Shape
shape_of entry = record (new_shape entry.name) { rules = entry.rules }

-- the program before its commands: it has no options but those that ask for help and for its version, and one command
-- has to be named
abbrev pub program : Shape
program = record (new_shape (codes "udsnorm")) {
  no_binary_name = true;
  disable_help_subcommand = true;
  subcommand_required = true;
  has_version = true;
}

-- the program
abbrev pub commands : App
commands = record { top = record program { is_leaf = false }; subs = map shape_of command_entries }

-- the task of the command of this name among these; what is none of them is `normalise`
abbrev pub task_in : List CommandEntry → Text → List Row → Task
task_in [] name rows = task.One job.Normalise
task_in (entry ∷ below) name rows = if bytes_eq name entry.name then entry.task rows else task_in below name rows

-- the same among all
abbrev pub task_named : Text → List Row → Task
task_named = task_in command_entries

-- the words, or what stands for none
abbrev pub words_or_normalise : List Text → List Text
words_or_normalise [] = codes "normalise" ∷ []
words_or_normalise (word ∷ words) = word ∷ words

-- the command that the words name, with its options and files as they are found, where the parser takes the words
abbrev pub command_in : List Text → Option (Text × List Row)
command_in words = subcommand_of commands words

-- what the parser may say of words that it does not take; it takes those of which it has nothing to say
abbrev pub refusals : List Text → Kinds
refusals words = fault_of commands words
