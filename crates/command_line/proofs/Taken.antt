-- What the parser found in words that it takes, and what it says of others.
use Rattle.std.proofs.Common.{◌≡◌, ◌≢◌, ◌∙◌, inl, inr, arith, ap, ap₂, sym, subst, refl, true≢false, Bool, true, false, List, [], ◌∷◌, length, map, Option, Result, Ok, Err, is_some, codes}
use Rattle.std.specs.Prelude.{IfOk, IsSome}
use Rattle.std.proofs.lemmas.Result.{IfOk-weaker}
use Rattle.clap.specs.Faults.{check_fault, defaults_fault, entered_fault, fault_of, is_simple_and_free, level_fault, settle_fault, walk_fault}
use Rattle.clap.specs.Kinds.{FailsBy, HasKind, IsAmong, Kinds, check_kinds, or_else}
use Rattle.clap.specs.Simple.{App, HasMatchesOf, Shape, argument_words, built, is_simple, names_of, subcommand_of, subcommand_rows_of}
use Rattle.clap.specs.Values.{kind_of}
use Rattle.clap.specs.Walk.{Held, Names, Row, Text, finished, nothing_held, settled, walk, walk_from}
use Rattle.clap.specs.declared.error.Error.{Error}
use Rattle.clap.specs.declared.error.kind.ErrorKind.TheVariants.{DisplayHelp, DisplayVersion, OutOfMemory}
use Rattle.clap.specs.declared.parser.matches.ArgMatches.{ArgMatches}
use Rattle.command_line.specs.Commands.{command_in, commands, refusals, words_or_normalise}
use Rattle.command_line.specs.declared.job.Plan.{Plan}
use Rattle.command_line.specs.declared.job.WordsFault.{WordsFault}
use Rattle.command_line.specs.declared.job.WordsFault.TheVariants.{Help, Words, Identifier, Config, Misfit, Unread, Memory}
use Rattle.command_line.specs.declared.seen_profile.SeenProfile.{SeenProfile}
use Rattle.command_line.specs.Words.{AreParsedAs, IsCalled, IsPlanned, IsPlannedFrom, IsRefusedBy}

-- ---- a command is found in words that are taken, where one is needed

no_more : (first rest : Kinds) → or_else first rest ≡ [] → rest ≡ []
no_more [] rest is = is
no_more (kind ∷ kinds) rest is = cc

never_none : (help needs argument : Bool) → needs ≡ true → check_kinds help needs argument ≡ [] → ⊥
never_none true needs argument needed is = cc
never_none false true argument needed is = cc
never_none false false argument needed is = true≢false (sym needed)

has_command : (s : Shape) (rows : List Row) (has : Bool) → s.subcommand_required ≡ true → check_fault s rows has ≡ [] → has ≡ true
has_command s rows true needed is = refl
has_command s rows false needed is = absurd (never_none _ _ _ needed is)

level_has_command : (s : Shape) (names : Names) (h : Held) (words : List Text) (has : Bool) (below : Kinds) → s.subcommand_required ≡ true
    → level_fault s names h words has below ≡ [] → has ≡ true
level_has_command s names h words has below needed is =
    let end = (walk s.rules names h words).held in
    has_command s (finished s.rules end) has needed
    (no_more (defaults_fault (settled s.rules end).rows s.rules) _
    (no_more (settle_fault s.rules s.args_override_self end) _
    (no_more below _ (no_more (walk_fault s names (walk_from h) words) _ is))))

command_is_found : (app : App) (words : List Text) → (built app).top.subcommand_required ≡ true → fault_of app words ≡ [] → IsSome (subcommand_of app words)
command_is_found app words needed taken =
    let stop = (walk (built app).top.rules (names_of (built app)) nothing_held (argument_words app words)).stopped in
    level_has_command (built app).top (names_of (built app)) nothing_held (argument_words app words) (is_some (subcommand_of app words))
    (entered_fault (built app) stop) needed taken

program_command : (words : List Text) (found : Option (Text × List Row)) → found ≡ command_in words → refusals words ≡ [] → IsSome found
program_command words found is taken = ap is_some is ∙ command_is_found commands words refl taken

-- ---- what a parse of the program's commands gives

pub finds : (app : App) (words meant : List Text) (result : Result ArgMatches Error) → app ≡ commands → words ≡ meant → IfOk result (HasMatchesOf app words)
    → IfOk result (λ m. subcommand_rows_of m ≡ command_in meant)
finds app words meant result app_is words_are has =
    IfOk-weaker result _ _ (λ m matches. (matches (ap is_simple app_is)).1 ∙ ap₂ subcommand_of app_is words_are) has

pub fails : (app : App) (words meant : List Text) (result : Result ArgMatches Error) → app ≡ commands → words ≡ meant
    → (is_simple_and_free app ≡ true → FailsBy (fault_of app words) result) → FailsBy (refusals meant) result
fails app words meant result app_is words_are by =
    subst (λ kinds. FailsBy kinds result) (ap₂ fault_of app_is words_are) (by (ap is_simple_and_free app_is))

-- no words, and words
pub none_are : {X : Type 0} (text : X → Text) (words : List X) → length words ≡ 0 → codes "normalise" ∷ [] ≡ words_or_normalise (map text words)
none_are text [] none = refl
none_are text (word ∷ words) none = absurd (omega arith)

pub some_are : {X : Type 0} (text : X → Text) (words : List X) → length words ≢ 0 → map text words ≡ words_or_normalise (map text words)
some_are text [] some = absurd (some refl)
some_are text (word ∷ words) some = refl

-- ---- what is said of words that are not taken

memory_is_not_help : OutOfMemory ≡ DisplayHelp → ⊥
memory_is_not_help is = cc

memory_is_not_version : OutOfMemory ≡ DisplayVersion → ⊥
memory_is_not_version is = cc

refused_by : (kinds : Kinds) (error : Error) (fault : WordsFault) → HasKind kinds error → IsCalled (kind_of error) fault → IsRefusedBy kinds fault
refused_by kinds error (Help text) (inl memory) (inl help) = absurd (memory_is_not_help (sym memory ∙ help))
refused_by kinds error (Help text) (inl memory) (inr version) = absurd (memory_is_not_version (sym memory ∙ version))
refused_by kinds error (Help text) (inr among) (inl help) = inl (subst (λ k. IsAmong k kinds) help among)
refused_by kinds error (Help text) (inr among) (inr version) = inr (subst (λ k. IsAmong k kinds) version among)
refused_by kinds error (Words text) (inl memory) called = absurd (called.2 memory)
refused_by kinds error (Words text) (inr among) called = (called.3, (kind_of error, called.0, called.1, among))
refused_by kinds error Memory has called = tt
refused_by kinds error Identifier has called = called
refused_by kinds error (Config reason) has called = called
refused_by kinds error (Misfit line) has called = called
refused_by kinds error (Unread line) has called = called

-- ---- what is planned of words, by what the parser says of them

pub planned_by : (words : List Text) (seen : SeenProfile) (parsed : Result ArgMatches Error) (matches : ArgMatches) (result : Result Plan WordsFault) → parsed ≡ Ok matches
    → (IsSome (subcommand_rows_of matches) → IsPlannedFrom (subcommand_rows_of matches) seen result) → AreParsedAs words parsed → IsPlanned words seen result
planned_by words seen parsed matches result is planned says =
    let taken : AreParsedAs words (Ok matches) = subst (AreParsedAs words) is says in
    let some = program_command words (subcommand_rows_of matches) taken.0 taken.1 in
    inl (taken.1, subst (λ found. IsPlannedFrom found seen result) taken.0 (planned some))

pub refused_with : (words : List Text) (seen : SeenProfile) (parsed : Result ArgMatches Error) (error : Error) (fault : WordsFault) → parsed ≡ Err error
    → IsCalled (kind_of error) fault → AreParsedAs words parsed → IsPlanned words seen (Err fault)
refused_with words seen parsed error fault is called says =
    let refused : AreParsedAs words (Err error) = subst (AreParsedAs words) is says in
    inr (refused_by (refusals words) error fault refused.1 called)
