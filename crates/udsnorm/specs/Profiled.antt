-- What is seen of the profile that words name.
use Rattle.std.specs.Prelude.{◌≡◌, ◌<◌, ◌≤◌, ◌⊎◌, ℕ, ⊤, List, [], ◌∷◌, codes, length, unwrap_or, true, Option, Some, None}
use Rattle.std.specs.Io.KnownBytes.{IsAtEnd}
use Rattle.std.specs.Option.{option_or}
use Rattle.clap.specs.Walk.{Row, Text, first_of}
use Rattle.trace_io.specs.Counted.{CountedReader}
use Rattle.trace_io.specs.Stream.{Gave}
use Rattle.trace_io.specs.declared.device.Source.{Ghosts as SourceGhosts}
use Rattle.udsnorm.specs.Opening.{Saying, apart, opened, refused, shared}
use Rattle.command_line.specs.declared.open_faults.OpenFault.{OpenFault}
use Rattle.command_line.specs.declared.seen_profile.SeenProfile.{SeenProfile}
use Rattle.command_line.specs.declared.seen_profile.SeenProfile.TheVariants as seen

-- The log of the file that was opened by this name, of which nothing was read.
pub record IsUnread {F : Type 0} (says : Saying F → Type 0) (file : SourceGhosts (CountedReader F)) (name : List ℕ) (log : CountedReader F) : Type 0 where
  pub by_name : says (opened name log.inner)
  pub from_start : file.given log ≡ []

-- The names of both files that a command reads. Where it reads one, that is named twice; where none is named, it is standard input.
abbrev pub log_names : List Row → List Text
log_names rows =
    let first = unwrap_or (option_or (first_of (codes "LOG") rows) (first_of (codes "A") rows)) (codes "/dev/stdin") in
    first ∷ unwrap_or (option_or (first_of (codes "OTHER") rows) (first_of (codes "B") rows)) first ∷ []

-- a file is one stream with one of these names
abbrev pub IsSharedWith : {F : Type 0} → (Saying F → Type 0) → F → List Text → Type 0
IsSharedWith says file [] = ⊥
IsSharedWith says file (name ∷ names) = says (shared file name) ⊎ IsSharedWith says file names

-- a file is one stream with none of these names
abbrev pub IsApartFrom : {F : Type 0} → (Saying F → Type 0) → F → List Text → Type 0
IsApartFrom says file [] = ⊤
IsApartFrom says file (name ∷ names) = says (apart file name) × IsApartFrom says file names

-- The reads gave all of a file, or more than a profile can have, by one piece at most; or one failed since it was opened.
abbrev pub WasRead : {F : Type 0} → SourceGhosts (CountedReader F) → CountedReader F → CountedReader F → SeenProfile → Type 0
WasRead file first read (seen.Read text) =
    (file.given read ≡ text.items) × ((file.is_over read ≡ true) ⊎ (65536 < length text.items)) × (length text.items ≤ 69632)
WasRead file first read seen.Unread = file.failures first < file.failures read
WasRead file first read seen.Shared = ⊥
WasRead file first read seen.Memory = ⊤

-- What was read of the file that was opened by this name, from its first byte. It is one stream with none of the logs.
pub record ReadFile {F : Type 0} (says : Saying F → Type 0) (file : SourceGhosts (CountedReader F)) (name : Text) (logs : List Text) (what : SeenProfile) : Type 0 where
  pub opened : CountedReader F
  pub unread : IsUnread says file name opened
  pub apart : IsApartFrom says opened.inner logs
  pub read : CountedReader F
  -- where the file tells the bytes to come, it gave these, and none is left at its end
  pub gave : Gave (file.given opened) (file.given read) (file.remaining opened) (file.remaining read)
  pub ended : (file.is_over opened ≡ true → IsAtEnd (file.remaining opened)) → file.is_over read ≡ true → IsAtEnd (file.remaining read)
  pub was : WasRead file opened read what

-- it can't be opened
abbrev pub IsRefusedFile : {F : Type 0} → (Saying F → Type 0) → Text → Type 0
IsRefusedFile says name = (fault : OpenFault) × says (refused name fault)

-- what is seen of the profile of this name by a command with these options and files
abbrev pub IsSeenAt : {F : Type 0} → (Saying F → Type 0) → SourceGhosts (CountedReader F) → Text → List Row → SeenProfile → Type 0
IsSeenAt says file name rows (seen.Read text) = ReadFile says file name (log_names rows) (seen.Read text)
IsSeenAt says file name rows seen.Unread = IsRefusedFile says name ⊎ ReadFile says file name (log_names rows) seen.Unread
IsSeenAt {F} says file name rows seen.Shared = (one : F) × says (opened name one) × IsSharedWith says one (log_names rows)
IsSeenAt says file name rows seen.Memory = ⊤

-- the same where a profile is named
abbrev pub IsSeenIn : {F : Type 0} → (Saying F → Type 0) → SourceGhosts (CountedReader F) → Option Text → List Row → SeenProfile → Type 0
IsSeenIn says file None rows what = ⊤
IsSeenIn says file (Some name) rows what = IsSeenAt says file name rows what

-- the same of the command that was found
abbrev pub IsSeenOf : {F : Type 0} → (Saying F → Type 0) → SourceGhosts (CountedReader F) → Option (Text × List Row) → SeenProfile → Type 0
IsSeenOf says file None what = ⊤
IsSeenOf says file (Some found) what = IsSeenIn says file (first_of (codes "profile") found.1) found.1 what
