-- What the words and their profile ask for: the configuration of a run.
use Rattle.std.specs.Prelude.{◌≡◌, ◌⊎◌, ◌&&◌, ◌≤◌, ℕ, Bool, true, false, List, [], ◌∷◌, ◌++◌, codes, length, unwrap_or, Option, Some, None, Result, Ok, Err, IsErrAnd}
use Rattle.std.specs.Fmt.{decimal}
use Rattle.clap.specs.Walk.{Row, Text, first_of}
use Rattle.can_log.specs.declared.frame.Id.{Id}
use Rattle.line_text.specs.Clipped.{clipped}
use Rattle.line_text.specs.Quoted.{quoted}
use Rattle.profile.specs.Profile.{ProfileValue}
use Rattle.profile.specs.Units.{UnitValue}
use Rattle.asked_profile.specs.Asked.{IsReadable, IsWrong, WantsMemory, asked_by}
use Rattle.asked_profile.specs.Choice.{chosen_of, unit_names}
use Rattle.asked_profile.specs.declared.choice.ChoiceFault.{ChoiceFault}
use Rattle.asked_profile.specs.declared.choice.ChoiceFault.TheVariants as choice
use Rattle.asked_profile.specs.declared.choice.RunIdentifiers.{RunIdentifiers}
use Rattle.uds_rules.specs.Rule.{RuleValue}
use Rattle.trace_log.specs.Settings.{Settings, ConfiguresSession}
use Rattle.command_line.specs.Values.{functional_in, is_given, limit_in, tester_in, unit_in}
use Rattle.command_line.specs.declared.job.WordsFault.{WordsFault}
use Rattle.command_line.specs.declared.job.WordsFault.TheVariants.{Help, Words, Identifier, Config, Misfit, Unread, Memory}
use Rattle.command_line.specs.declared.seen_profile.SeenProfile.{SeenProfile}
use Rattle.command_line.specs.declared.seen_profile.SeenProfile.TheVariants as seen

-- ---- without a profile

-- what identifiers and a limit ask for: a configuration, or the reason why there is none
abbrev pub IsConfiguredAs : Id → Id → Option Id → ℕ → Result Settings WordsFault → Type 0
IsConfiguredAs tester unit functional limit (Ok settings) = ConfiguresSession tester unit functional limit (Ok settings)
IsConfiguredAs tester unit functional limit (Err (Config fault)) = ConfiguresSession tester unit functional limit (Err fault)
IsConfiguredAs tester unit functional limit (Err (Help text)) = ⊥
IsConfiguredAs tester unit functional limit (Err (Words text)) = ⊥
IsConfiguredAs tester unit functional limit (Err Identifier) = ⊥
IsConfiguredAs tester unit functional limit (Err (Misfit line)) = ⊥
IsConfiguredAs tester unit functional limit (Err (Unread line)) = ⊥
IsConfiguredAs tester unit functional limit (Err Memory) = ⊥

-- the same where a text is to spell the identifier of functional requests: where it spells none, that is the reason
abbrev pub IsConfiguredToAll : Id → Id → Option Id → ℕ → Result Settings WordsFault → Type 0
IsConfiguredToAll tester unit (Some functional) limit result = IsConfiguredAs tester unit (Some functional) limit result
IsConfiguredToAll tester unit None limit result = result ≡ Err Identifier

-- and where no such text is given
abbrev pub IsConfiguredTo : Id → Id → Option (Option Id) → ℕ → Result Settings WordsFault → Type 0
IsConfiguredTo tester unit (Some functional) limit result = IsConfiguredToAll tester unit functional limit result
IsConfiguredTo tester unit None limit result = IsConfiguredAs tester unit None limit result

-- The same of the identifiers that two texts spell, or three. Where one of them spells none, that is the reason.
abbrev pub IsConfiguredBy : Option Id → Option Id → Option (Option Id) → ℕ → Result Settings WordsFault → Type 0
IsConfiguredBy (Some tester) (Some unit) functional limit result = IsConfiguredTo tester unit functional limit result
IsConfiguredBy (Some tester) None functional limit result = result ≡ Err Identifier
IsConfiguredBy None unit functional limit result = result ≡ Err Identifier

-- the configuration of the values of `--tester`, `--unit`, `--functional` and `--limit`
abbrev pub IsConfiguredIn : List Row → Result Settings WordsFault → Type 0
IsConfiguredIn rows result = IsConfiguredBy (tester_in rows) (unit_in rows) (functional_in rows) (limit_in rows) result

-- ---- what is told

-- a line about the file of a profile
abbrev pub line_about : Text → List ℕ → List ℕ
line_about file told = quoted file ++ codes ": " ++ told ++ codes "\n"

-- an option that says who speaks stands beside a profile with units, which say it
abbrev pub beside_line : Text → Text → List ℕ
beside_line option file = codes "--" ++ option ++ codes " beside " ++ quoted file ++ codes ", which has units\n"

-- no unit is chosen
abbrev pub choice_line : Text → List UnitValue → Option Text → ChoiceFault → List ℕ
choice_line file units only choice.NoUnits = quoted file ++ codes " has no units\n"
choice_line file units only choice.NoSuchUnit = line_about file (codes "no unit " ++ clipped (unwrap_or only []))
choice_line file units only choice.SeveralUnits =
    quoted file ++ codes " has " ++ decimal (length units) ++ codes " units: choose one by --only: " ++ unit_names units ++ codes "\n"

-- the line of a profile that doesn't fit its words, or with which something is wrong; memory is refused only to one that has a byte
abbrev pub IsTold : List ℕ → WordsFault → Type 0
IsTold line (Misfit told) = told.items ≡ line
IsTold line (Help text) = ⊥
IsTold line (Words text) = ⊥
IsTold line Identifier = ⊥
IsTold line (Config fault) = ⊥
IsTold line (Unread told) = ⊥
IsTold line Memory = 1 ≤ length line

-- that of one that can't be read
abbrev pub IsToldUnread : List ℕ → WordsFault → Type 0
IsToldUnread line (Unread told) = told.items ≡ line
IsToldUnread line (Help text) = ⊥
IsToldUnread line (Words text) = ⊥
IsToldUnread line Identifier = ⊥
IsToldUnread line (Config fault) = ⊥
IsToldUnread line (Misfit told) = ⊥
IsToldUnread line Memory = 1 ≤ length line

-- ---- with a profile

-- the same configuration under rules
abbrev pub under_rules : List RuleValue → Result Settings WordsFault → Result Settings WordsFault
under_rules rules (Ok settings) = Ok (record settings { rules = rules })
under_rules rules (Err fault) = Err fault

-- a configuration of which this holds, under rules
abbrev pub IsUnder : List RuleValue → (Result Settings WordsFault → Type 0) → Result Settings WordsFault → Type 0
IsUnder rules IsPlain result = (plain : Result Settings WordsFault) × IsPlain plain × (result ≡ under_rules rules plain)

-- the first of the options `--tester`, `--unit` and `--functional` that is given
abbrev pub side_given : Option Text → Option Text → Option Text → Option Text
side_given (Some tester) unit functional = Some (codes "tester")
side_given None (Some unit) functional = Some (codes "unit")
side_given None None (Some functional) = Some (codes "functional")
side_given None None None = None

-- the same where units say who speaks
abbrev pub side_beside : List UnitValue → List Row → Option Text
side_beside [] rows = None
side_beside (one ∷ rest) rows =
    side_given (first_of (codes "tester") rows) (first_of (codes "unit") rows) (first_of (codes "functional") rows)

-- the configuration of the identifiers of the unit that was chosen, or of the words' own where there are no units
abbrev pub IsOfSides : Option RunIdentifiers → List Row → Result Settings WordsFault → Type 0
IsOfSides None rows result = IsConfiguredIn rows result
IsOfSides (Some sides) rows result = IsConfiguredAs sides.tester sides.unit sides.functional (limit_in rows) result

-- that of what was chosen of a profile, under its rules, or that nothing was
abbrev pub IsOfChoice : Text → List Row → ProfileValue → Result (Option RunIdentifiers) ChoiceFault → Result Settings WordsFault → Type 0
IsOfChoice file rows profile (Ok sides) result = IsUnder profile.rules (IsOfSides sides rows) result
IsOfChoice file rows profile (Err fault) result = IsErrAnd result (IsTold (choice_line file profile.units (first_of (codes "only") rows) fault))

-- that of a profile: where it has units, no identifier stands beside it
abbrev pub IsBeside : Option Text → Text → List Row → ProfileValue → Result Settings WordsFault → Type 0
IsBeside (Some option) file rows profile result = IsErrAnd result (IsTold (beside_line option file))
IsBeside None file rows profile result = IsOfChoice file rows profile (chosen_of profile.units (first_of (codes "only") rows)) result

abbrev pub IsOfProfile : Text → List Row → ProfileValue → Result Settings WordsFault → Type 0
IsOfProfile file rows profile result = IsBeside (side_beside profile.units rows) file rows profile result

-- That of the bytes of a profile: of what they ask for, as TOML; or what is wrong in them is told; or memory is refused that they
-- want.
abbrev pub IsOfBytes : Text → List Row → List ℕ → Result Settings WordsFault → Type 0
IsOfBytes file rows text result =
    ((profile : ProfileValue) × IsReadable text × (asked_by text ≡ Some (Ok profile)) × IsOfProfile file rows profile result)
    ⊎ (((line : ℕ) × (told : List ℕ) × IsWrong text line told × IsErrAnd result (IsTold (line_about file told)))
    ⊎ ((result ≡ Err Memory) × WantsMemory text))

-- that of what is seen of the profile of this name
abbrev pub IsOfSeen : Text → List Row → SeenProfile → Result Settings WordsFault → Type 0
IsOfSeen file rows (seen.Read text) result = IsOfBytes file rows text.items result
IsOfSeen file rows seen.Unread result = IsErrAnd result (IsToldUnread (line_about file (codes "read failed")))
IsOfSeen file rows seen.Shared result = IsErrAnd result (IsTold (codes "profile and log are the same stream\n"))
IsOfSeen file rows seen.Memory result = result ≡ Err Memory

-- words ask for objects of JSON, and for a profile
abbrev pub asks_for_both : List Row → Bool
asks_for_both rows = is_given (codes "json") rows && is_given (codes "toml") rows

-- that of words, unless they ask for two ways to write
abbrev pub IsInOneStyle : Bool → List Row → Result Settings WordsFault → Type 0
IsInOneStyle true rows result = IsErrAnd result (IsTold (codes "--json beside --toml\n"))
IsInOneStyle false rows result = IsConfiguredIn rows result

-- that of words without a profile, where no unit of one is named
abbrev pub IsWithout : Option Text → List Row → Result Settings WordsFault → Type 0
IsWithout None rows result = IsInOneStyle (asks_for_both rows) rows result
IsWithout (Some only) rows result = IsErrAnd result (IsTold (codes "--only without --profile\n"))

-- that of words, by the profile that they name or without one
abbrev pub IsNamed : Option Text → List Row → SeenProfile → Result Settings WordsFault → Type 0
IsNamed None rows what result = IsWithout (first_of (codes "only") rows) rows result
IsNamed (Some file) rows what result = IsOfSeen file rows what result

-- The configuration that words ask for, with what is seen of their profile.
abbrev pub IsConfigured : List Row → SeenProfile → Result Settings WordsFault → Type 0
IsConfigured rows what result = IsNamed (first_of (codes "profile") rows) rows what result
