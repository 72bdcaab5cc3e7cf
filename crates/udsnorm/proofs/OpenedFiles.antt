-- Files that were opened by their names, and what was read of a profile.
use Rattle.std.proofs.Common.{◌≡◌, ℕ, [], List, inr, Option, Some, None, option_map, Result, Ok, ap, sym, subst, false, true}
use Rattle.clap.specs.Simple.{subcommand_rows_of}
use Rattle.clap.specs.Walk.{Row, Text, first_of}
use Rattle.std.specs.Prelude.{codes, unwrap_or}
use Rattle.std.specs.Io.KnownBytes.{IsAtEnd}
use Rattle.clap.specs.declared.error.Error.{Error}
use Rattle.clap.specs.declared.parser.matches.ArgMatches.{ArgMatches}
use Rattle.trace_io.specs.Counted.{CountedReader}
use Rattle.trace_io.specs.Stream.{Gave}
use Rattle.trace_io.specs.declared.device.Source.{Ghosts as SourceGhosts}
use Rattle.command_line.specs.Commands.{command_in}
use Rattle.udsnorm.specs.Opening.{Saying, opened, two_files}
use Rattle.udsnorm.specs.Profiled.{IsApartFrom, IsSeenOf, IsSeenAt, IsSeenIn, IsUnread, WasRead, log_names}
use Rattle.command_line.specs.Words.{AreParsedAs}
use Rattle.command_line.specs.declared.seen_profile.SeenProfile.{SeenProfile}
use Rattle.command_line.specs.declared.seen_profile.SeenProfile.TheVariants as seen

abbrev pub given_by : {F : Type 0} → CountedReader F → List ℕ
given_by log = log.given

-- a file through which nothing was read
abbrev fresh : {F : Type 0} → F → CountedReader F
fresh log = record { inner = log; reads = 0; failures = 0; is_over = false; given = [] }

-- what is said of a file is said of it where it is to be read
pub opened_as : {F : Type 0} (says : Saying F → Type 0) {name : List ℕ} {log : F} {reader : CountedReader F} → reader ≡ fresh log → says (opened name log) → says (opened name reader.inner)
opened_as {F} says {name} is told = subst (λ (r : CountedReader F). says (opened name r.inner)) (sym is) told

pub apart_as : {F : Type 0} (says : Saying F → Type 0) (names : List Text) {log : F} {reader : CountedReader F} → reader ≡ fresh log → IsApartFrom says log names → IsApartFrom says reader.inner names
apart_as {F} says names is told = subst (λ (r : CountedReader F). IsApartFrom says r.inner names) (sym is) told

pub two_files_as : {F : Type 0} (says : Saying F → Type 0) {one other : F} {left right : CountedReader F} → left ≡ fresh one → right ≡ fresh other
    → says (two_files one other) → says (two_files left.inner right.inner)
two_files_as {F} says {one} {other} {left} is_left is_right told =
    subst (λ (r : CountedReader F). says (two_files left.inner r.inner)) (sym is_right) (subst (λ (l : CountedReader F). says (two_files l.inner other)) (sym is_left) told)

-- what was read of a file that was opened by this name is seen of it
pub read_of : {F : Type 0} (says : Saying F → Type 0) (file : SourceGhosts (CountedReader F)) (name : Text) (rows : List Row) (first last : CountedReader F) (what : SeenProfile)
    → IsUnread says file name first → IsApartFrom says first.inner (log_names rows)
    → Gave (file.given first) (file.given last) (file.remaining first) (file.remaining last)
    → ((file.is_over first ≡ true → IsAtEnd (file.remaining first)) → file.is_over last ≡ true → IsAtEnd (file.remaining last))
    → WasRead file first last what → IsSeenAt says file name rows what
read_of says file name rows first last (seen.Read text) unread apart gave ended was =
    record { opened = first; unread = unread; apart = apart; read = last; gave = gave; ended = ended; was = was }
read_of says file name rows first last seen.Unread unread apart gave ended was =
    inr (record { opened = first; unread = unread; apart = apart; read = last; gave = gave; ended = ended; was = was })
read_of says file name rows first last seen.Shared unread apart gave ended was = absurd was
read_of says file name rows first last seen.Memory unread apart gave ended was = tt

-- what is seen of the profile that a command names is seen for that command
pub seen_named : {F : Type 0} (says : Saying F → Type 0) (file : SourceGhosts (CountedReader F)) (name : Text) (rows : List Row) (found : Option (Text × List Row)) (what : SeenProfile)
    → Some rows ≡ option_map (λ p. p.1) found → Some name ≡ first_of (codes "profile") rows → IsSeenAt says file name rows what → IsSeenOf says file found what
seen_named says file name rows None what is named seen = tt
seen_named says file name rows (Some found) what is named seen =
    let same : rows ≡ found.1 = ap (λ o. unwrap_or o []) is in
    subst (λ l. IsSeenIn says file (first_of (codes "profile") l) l what) same (subst (λ n. IsSeenIn says file n rows what) named seen)

-- what is seen for the command that the parser found is seen for the words of which it says so
pub seen_by : {F : Type 0} (says : Saying F → Type 0) (file : SourceGhosts (CountedReader F)) (words : List Text) (parsed : Result ArgMatches Error) (matches : ArgMatches) (what : SeenProfile)
    → parsed ≡ Ok matches → IsSeenOf says file (subcommand_rows_of matches) what → AreParsedAs words parsed → IsSeenOf says file (command_in words) what
seen_by says file words parsed matches what is seen said =
    let taken : AreParsedAs words (Ok matches) = subst (AreParsedAs words) is said in
    subst (λ found. IsSeenOf says file found what) taken.0 seen

-- where memory is refused nothing is said
memory_in : {F : Type 0} (says : Saying F → Type 0) (file : SourceGhosts (CountedReader F)) (name : Option Text) (rows : List Row) → IsSeenIn says file name rows seen.Memory
memory_in says file None rows = tt
memory_in says file (Some name) rows = tt

pub memory_of : {F : Type 0} (says : Saying F → Type 0) (file : SourceGhosts (CountedReader F)) (found : Option (Text × List Row)) → IsSeenOf says file found seen.Memory
memory_of says file None = tt
memory_of says file (Some found) = memory_in says file (first_of (codes "profile") found.1) found.1
