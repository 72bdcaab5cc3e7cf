-- What the commands and the texts of their options ask for.
use Rattle.std.specs.Prelude.{◌≡◌, ◌≢◌, ◌⊎◌, Bool, List, [], codes, bytes_eq, Option, Some, None, option_map, Result, Ok, Err, ⊤, string_bytes, IfOk, IsErrAnd}
use Rattle.std.specs.List.{list_any}
use Rattle.clap.specs.Kinds.{FailsBy, IsAmong, Kinds}
use Rattle.clap.specs.Simple.{subcommand_rows_of}
use Rattle.clap.specs.Walk.{Row, Text, first_of}
use Rattle.clap.specs.declared.error.Error.{Error}
use Rattle.clap.specs.declared.error.kind.ErrorKind.{ErrorKind}
use Rattle.clap.specs.declared.error.kind.ErrorKind.TheVariants.{DisplayHelp, DisplayVersion, OutOfMemory}
use Rattle.clap.specs.declared.parser.matches.ArgMatches.{ArgMatches}
use Rattle.command_line.specs.Commands.{command_in, left_file, refusals, right_file, task_named}
use Rattle.command_line.specs.Configured.{IsConfigured}
use Rattle.command_line.specs.Shown.{IsShown}
use Rattle.command_line.specs.Values.{is_strict}
use Rattle.command_line.specs.declared.commands.Task.{Task}
use Rattle.command_line.specs.declared.commands.Task.TheVariants as task
use Rattle.command_line.specs.declared.job.Plan.{Plan}
use Rattle.command_line.specs.declared.job.Plan.TheVariants.{One, Two}
use Rattle.command_line.specs.declared.job.WordsFault.{WordsFault}
use Rattle.command_line.specs.declared.job.WordsFault.TheVariants.{Help, Words, Identifier, Config, Misfit, Unread, Memory}
use Rattle.command_line.specs.declared.seen_profile.SeenProfile.{SeenProfile}

-- the plan that the options and files of a command ask for, with what is seen of their profile: of its job over LOG, if it
-- is there; or of its job over two files
abbrev pub IsPlanOf : Task → List Row → SeenProfile → Plan → Type 0
IsPlanOf (task.One named) rows seen (One job strict config log) =
    (job ≡ named) × (strict ≡ is_strict rows) × IsConfigured rows seen (Ok config) × (option_map string_bytes log ≡ first_of (codes "LOG") rows)
IsPlanOf (task.Two named) rows seen (Two job strict config left right) =
    (job ≡ named) × (strict ≡ is_strict rows) × IsConfigured rows seen (Ok config) × (Some (string_bytes left) ≡ first_of (left_file named) rows)
    × (Some (string_bytes right) ≡ first_of (right_file named) rows)
IsPlanOf (task.One named) rows seen (Two job strict config left right) = ⊥
IsPlanOf (task.Two named) rows seen (One job strict config log) = ⊥

-- a job over two files of which one is not named
abbrev pub LacksFile : Task → List Row → Type 0
LacksFile (task.Two job) rows = (first_of (left_file job) rows ≡ None) ⊎ (first_of (right_file job) rows ≡ None)
LacksFile (task.One job) rows = ⊥

-- why there is no such plan: the configuration, a file that is not named, or that memory is refused
abbrev pub IsRefusedFor : Task → List Row → SeenProfile → WordsFault → Type 0
IsRefusedFor asked rows seen Identifier = IsConfigured rows seen (Err Identifier)
IsRefusedFor asked rows seen (Config fault) = IsConfigured rows seen (Err (Config fault))
IsRefusedFor asked rows seen (Misfit line) = IsConfigured rows seen (Err (Misfit line))
IsRefusedFor asked rows seen (Unread line) = IsConfigured rows seen (Err (Unread line))
IsRefusedFor asked rows seen (Help text) = ⊥
IsRefusedFor asked rows seen (Words text) = LacksFile asked rows × IsShown (string_bytes text)
IsRefusedFor asked rows seen Memory = ⊤

-- a plan for the command that was found, or why there is none
abbrev pub IsPlannedFrom : Option (Text × List Row) → SeenProfile → Result Plan WordsFault → Type 0
IsPlannedFrom None seen result = ⊥
IsPlannedFrom (Some found) seen (Ok plan) = IsPlanOf (task_named found.0 found.1) found.1 seen plan
IsPlannedFrom (Some found) seen (Err fault) = IsRefusedFor (task_named found.0 found.1) found.1 seen fault

-- what an error of the parser of this kind is called
abbrev pub IsCalled : ErrorKind → WordsFault → Type 0
IsCalled kind (Help text) = (kind ≡ DisplayHelp) ⊎ (kind ≡ DisplayVersion)
IsCalled kind (Words text) = (kind ≢ DisplayHelp) × (kind ≢ DisplayVersion) × (kind ≢ OutOfMemory) × IsShown (string_bytes text)
IsCalled kind Memory = kind ≡ OutOfMemory
IsCalled kind Identifier = ⊥
IsCalled kind (Config fault) = ⊥
IsCalled kind (Misfit line) = ⊥
IsCalled kind (Unread line) = ⊥

-- what is said of words that the parser does not take: help or the version, where one of them was asked for, or what is
-- wrong with them, in printable ASCII; or that memory is refused
abbrev pub IsRefusedBy : Kinds → WordsFault → Type 0
IsRefusedBy kinds (Help text) = IsAmong DisplayHelp kinds ⊎ IsAmong DisplayVersion kinds
IsRefusedBy kinds (Words text) = IsShown (string_bytes text) × ((kind : ErrorKind) × (kind ≢ DisplayHelp) × (kind ≢ DisplayVersion) × IsAmong kind kinds)
IsRefusedBy kinds Memory = ⊤
IsRefusedBy kinds Identifier = ⊥
IsRefusedBy kinds (Config fault) = ⊥
IsRefusedBy kinds (Misfit line) = ⊥
IsRefusedBy kinds (Unread line) = ⊥

-- what the parser says of the words: where it takes them, the command that it finds, and else an error of the kinds that it
-- may have
abbrev pub AreParsedAs : List Text → Result ArgMatches Error → Type 0
AreParsedAs words parsed = IfOk parsed (λ m. subcommand_rows_of m ≡ command_in words) × FailsBy (refusals words) parsed

-- what the words ask for, with what is seen of their profile: the parser takes them, and the plan is that of the command
-- which it finds; or it does not
abbrev pub IsPlanned : List Text → SeenProfile → Result Plan WordsFault → Type 0
IsPlanned words seen result =
    ((refusals words ≡ []) × IsPlannedFrom (command_in words) seen result) ⊎ IsErrAnd result (IsRefusedBy (refusals words))

-- the words ask for hints: one of them is `--hints`
abbrev pub asks_for_hints : List Text → Bool
asks_for_hints given = list_any (λ word. bytes_eq word (codes "--hints")) given
