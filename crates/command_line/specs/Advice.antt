-- What is said of words that ask for nothing: what to write instead.
use Prim.Native.Char.{code}
use Rattle.std.specs.Prelude.{◌≡◌, ◌⊎◌, ℕ, ◌==◌, ◌&&◌, ◌||◌, Bool, false, List, [], ◌∷◌, ◌++◌, codes, length, bytes_eq, Option, Some, None, unwrap_or, if◌then◌else◌}
use Rattle.std.specs.Char.{is_ascii_hexdigit}
use Rattle.std.specs.List.{list_all}
use Rattle.can_log.specs.declared.frame.Id.{Id}
use Rattle.clap.specs.Walk.{Row, Text, first_of}
use Rattle.trace_log.specs.declared.fault.ConfigFault.{ConfigFault}
use Rattle.trace_log.specs.declared.fault.ConfigFault.TheVariants as config
use Rattle.command_line.specs.Commands.{command_in, words_or_normalise}
use Rattle.profile.specs.UnitKeys.{identifier_of, is_of_bus}
use Rattle.line_text.specs.Quoted.{quoted}
use Rattle.command_line.specs.Under.{UnderValue, under_in}
use Rattle.command_line.specs.declared.job.WordsFault.{WordsFault}
use Rattle.command_line.specs.declared.job.WordsFault.TheVariants as words

-- ---- where a command has its place

-- what is said of a word that other programs have there
abbrev pub line_of_word : Text → Option (List ℕ)
line_of_word word =
    if bytes_eq word (codes "help") then Some (codes "hint: udsnorm --help has the commands, udsnorm COMMAND --help the options of one\n")
    else if bytes_eq word (codes "version") then Some (codes "hint: udsnorm --version tells the version\n")
    else if bytes_eq word (codes "-") then Some (codes "hint: standard input is read where no file is named: udsnorm list\n")
    else None

-- of a file's name
abbrev pub file_line : Text → List ℕ
file_line name = codes "hint: " ++ quoted name ++ codes " is a file: udsnorm list " ++ quoted name ++ codes "\n"

-- of the names of two files
abbrev pub files_line : Text → Text → List ℕ
files_line one other =
    codes "hint: " ++ quoted one ++ codes " and " ++ quoted other ++ codes " are files: udsnorm compare " ++ quoted one ++ codes " " ++ quoted other ++ codes "\n"

-- of any other word and the one behind it, which name files
abbrev pub IsOfTwo : Text → List Text → List ℕ → Type 0
IsOfTwo word [] line = ⊥
IsOfTwo word (other ∷ rest) line = line ≡ files_line word other

-- of any other word and those behind it: the file system says which name a file
abbrev pub IsOfFiles : Text → List Text → List ℕ → Type 0
IsOfFiles word rest line = (line ≡ []) ⊎ ((line ≡ file_line word) ⊎ IsOfTwo word rest line)

abbrev pub IsOfFirst : Option (List ℕ) → Text → List Text → List ℕ → Type 0
IsOfFirst (Some known) word rest line = line ≡ known
IsOfFirst None word rest line = IsOfFiles word rest line

-- what is said of words that don't fit the commands, by the first of them
abbrev pub IsOfWords : List Text → List ℕ → Type 0
IsOfWords [] line = line ≡ []
IsOfWords (word ∷ rest) line = IsOfFirst (line_of_word word) word rest line

-- ---- identifiers

-- an identifier that a bus carries
abbrev pub is_carried : Option Id → Bool
is_carried None = false
is_carried (Some identifier) = is_of_bus identifier

-- the digits of an identifier
abbrev pub is_spelled : Text → Bool
is_spelled text = list_all is_ascii_hexdigit text && ((length text == 3) || (length text == 8))

-- those behind `0x`
abbrev pub behind_prefix : Text → Option Text
behind_prefix (first ∷ mark ∷ rest) = if first == code "0" && (mark == code "x" || mark == code "X") && is_spelled rest then Some rest else None
behind_prefix shorter = None

-- what is said of a value that is no identifier, behind it
abbrev pub what_to_write : Option Text → List ℕ
what_to_write (Some digits) = codes "; write " ++ quoted digits ++ codes "\n"
what_to_write None = codes "; an identifier has three hexadecimal digits, up to 7FF, or eight, up to 1FFFFFFF\n"

-- of such a value, and of its option
abbrev pub value_line : Text → Text → List ℕ
value_line option value = codes "hint: " ++ option ++ codes " is " ++ quoted value ++ what_to_write (behind_prefix value)

-- of values of which one is none, or that are the same
abbrev pub values_line : Text → Text → List ℕ
values_line tester unit =
    if is_carried (identifier_of tester) then
    (if is_carried (identifier_of unit) then codes "hint: --tester is " ++ quoted tester ++ codes ", --unit " ++ quoted unit ++ codes "\n" else value_line (codes "--unit") unit)
    else value_line (codes "--tester") tester

-- the same of three values
abbrev pub all_values_line : Text → Text → Text → List ℕ
all_values_line tester unit functional =
    if is_carried (identifier_of tester) then
    (if is_carried (identifier_of unit) then
    (if is_carried (identifier_of functional) then
    codes "hint: --tester is " ++ quoted tester ++ codes ", --unit " ++ quoted unit ++ codes ", --functional " ++ quoted functional ++ codes "\n"
    else value_line (codes "--functional") functional)
    else value_line (codes "--unit") unit)
    else value_line (codes "--tester") tester

-- of two values, or of three
abbrev pub line_of_values : Text → Text → Option Text → List ℕ
line_of_values tester unit None = values_line tester unit
line_of_values tester unit (Some functional) = all_values_line tester unit functional

-- of the values that are given, or the usual ones
abbrev pub given_line : List Row → List ℕ
given_line rows =
    line_of_values (unwrap_or (first_of (codes "tester") rows) (codes "7E0")) (unwrap_or (first_of (codes "unit") rows) (codes "7E8"))
    (first_of (codes "functional") rows)

-- of a command with these values
abbrev pub IsOfCommand : Option (Text × List Row) → List ℕ → Type 0
IsOfCommand None line = line ≡ []
IsOfCommand (Some found) line = line ≡ given_line found.1

-- ---- a profile

-- of one of this name that can't be read: the file system says whether there is none, or it is a folder
abbrev pub IsOfUnreadFile : Text → List ℕ → Type 0
IsOfUnreadFile file line =
    (line ≡ []) ⊎ ((line ≡ codes "hint: there is no file " ++ quoted file ++ codes "\n") ⊎ (line ≡ codes "hint: " ++ quoted file ++ codes " is a folder\n"))

-- of the one that words name
abbrev pub IsOfUnread : Option UnderValue → List ℕ → Type 0
IsOfUnread None line = line ≡ []
IsOfUnread (Some under) line = IsOfUnreadFile under.file line

-- ---- what is said

-- what is said of a configuration that there is not
abbrev pub IsOfConfig : ConfigFault → List Text → List ℕ → Type 0
IsOfConfig config.IdRange given line = IsOfCommand (command_in (words_or_normalise given)) line
IsOfConfig config.SameId given line = IsOfCommand (command_in (words_or_normalise given)) line
IsOfConfig config.SameFunctional given line = IsOfCommand (command_in (words_or_normalise given)) line
IsOfConfig config.LimitRange given line = line ≡ codes "hint: --limit takes 1 to 1099511627776 bytes\n"

-- what is said of words that ask for nothing, by what is wrong with them; nothing of help, of what a profile says or of refused
-- memory
abbrev pub IsAdviceFor : WordsFault → List Text → List ℕ → Type 0
IsAdviceFor (words.Help text) given line = line ≡ []
IsAdviceFor (words.Words text) given line = IsOfWords given line
IsAdviceFor words.Identifier given line = IsOfCommand (command_in (words_or_normalise given)) line
IsAdviceFor (words.Config reason) given line = IsOfConfig reason given line
IsAdviceFor (words.Misfit told) given line = line ≡ []
IsAdviceFor (words.Unread told) given line = IsOfUnread (under_in (command_in (words_or_normalise given))) line
IsAdviceFor words.Memory given line = line ≡ []
