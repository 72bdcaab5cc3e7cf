-- The configuration that the values of options ask for.
use Rattle.std.proofs.Common.{◌≡◌, inl, inr, codes, ℕ, List, Bool, true, false, arith, refl, ap, sym, subst, ◌∙◌, Option, Some, None, Result, Ok, Err}
use Rattle.std.specs.Borrow.{Bor}
use Rattle.std.specs.Prelude.{option_map, unwrap_or, ⊤, IfErr, IsErrAnd}
use Rattle.can_log.specs.declared.frame.Id.{Id}
use Rattle.std.specs.Str.Parse.{ExplainsUnsignedError, HasUnsignedDigitsIfOk, ParsesUnsigned}
use Rattle.std.specs.declared.num.ParseIntError.{ParseIntError}
use Rattle.clap.specs.Matches.{ReadsOne, one_text}
use Rattle.clap.specs.ValueTests.{is_unsigned_in}
use Rattle.clap.specs.Walk.{Row, Text, first_of, one_of, rows_of}
use Rattle.clap.specs.declared.builder.value_parser.ValueParser.TheVariants.{Unsigned}
use Rattle.clap.specs.declared.parser.matches.Found.{Found}
use Rattle.clap.proofs.ValueTestLemmas.{Accepts-accepts, accepts-Accepts}
use Rattle.clap.proofs.WalkLemmas.{one_text-rows}
use Rattle.trace_log.specs.Settings.{Settings}
use Rattle.uds_rules.specs.Rule.{RuleValue}
use Rattle.profile.specs.Profile.{ProfileValue}
use Rattle.asked_profile.specs.Choice.{chosen_of}
use Rattle.asked_profile.specs.declared.choice.ChoiceFault.{ChoiceFault}
use Rattle.asked_profile.specs.declared.choice.RunIdentifiers.{RunIdentifiers}
use Rattle.command_line.specs.Configured.{IsBeside, IsConfigured, IsConfiguredAs, IsConfiguredBy, IsInOneStyle, IsNamed, IsOfBytes, IsOfChoice, IsOfSeen, IsOfSides, IsTold, IsToldUnread, IsUnder, IsWithout, asks_for_both, beside_line, choice_line, line_about, side_beside}
use Rattle.command_line.specs.declared.commands.Task.{Task}
use Rattle.command_line.specs.declared.seen_profile.SeenProfile.{SeenProfile}
use Rattle.command_line.specs.declared.seen_profile.SeenProfile.TheVariants as seen
use Rattle.command_line.specs.declared.job.Plan.{Plan}
use Rattle.command_line.specs.declared.job.WordsFault.{WordsFault}
use Rattle.command_line.specs.declared.job.WordsFault.TheVariants.{Help, Words, Identifier, Config, Misfit, Unread, Memory}
use Rattle.profile.specs.UnitKeys.{identifier_of}
use Rattle.command_line.specs.Values.{functional_in, limit_in, number_of, tester_in, unit_in}
use Rattle.command_line.specs.Words.{IsRefusedFor}

-- what a text with a default holds
text_or : (text : Option (Bor Text)) (default : Bor Text) → (unwrap_or text default).now ≡ unwrap_or (option_map (λ t. t.now) text) default.now
text_or None default = refl
text_or (Some text) default = refl

-- the value of an option whose text is read with a default
pub value_of : (text : Option (Bor Text)) (default value : Bor Text) (given : Option Text) → option_map (λ t. t.now) text ≡ given
    → value ≡ unwrap_or text default → value.now ≡ unwrap_or given default.now
value_of text default value given read is = ap (λ v. v.now) is ∙ text_or text default ∙ ap (λ v. unwrap_or v default.now) read

-- what `parse::<u64>` reads of a text
abbrev pub Reads : Text → Result ℕ ParseIntError → Type 0
Reads text read = ParsesUnsigned 64 10 text read × ExplainsUnsignedError 10 text read × HasUnsignedDigitsIfOk text read

-- the number that it reads, or 0 where it reads none
number_read : (text : Option Text) (value : Option ℕ) → (text ≡ None → value ≡ None) → ((t : Text) → text ≡ Some t → ReadsOne Reads t value)
    → unwrap_or value 0 ≡ number_of text
number_read None value none some = ap (λ v. unwrap_or v 0) (none refl)
number_read (Some text) (Some number) none some =
    let read : Reads text (Ok number) = some text refl in
    rw (Accepts-accepts false (Unsigned 0 18446744073709551615) text (read.0.0.0, read.0.0.1, omega arith, omega (arith, read.0.0.1))) read.0.1
number_read (Some text) None none some = by (is_unsigned_in 0 18446744073709551615 text) refl
  where
    by : (passes : Bool) → is_unsigned_in 0 18446744073709551615 text ≡ passes → 0 ≡ number_of (Some text)
    by false is = rw is refl
    by true is =
        let fits = accepts-Accepts false (Unsigned 0 18446744073709551615) text is in
        let failed : ReadsOne Reads text None = some text refl in
        let unfit = failed.1.0 in
        absurd (unfit (fits.0, fits.1))

-- the number of an option, as the rows have it
pub number_in : (found : Found) (option : Text) (value : Option ℕ) → (one_text found option ≡ None → value ≡ None)
    → ((t : Text) → one_text found option ≡ Some t → ReadsOne Reads t value) → unwrap_or value 0 ≡ number_of (one_of option (rows_of found))
number_in found option value none some =
    let same = one_text-rows found option in
    number_read (one_of option (rows_of found)) value (λ is. none (same ∙ is)) (λ t is. some t (same ∙ is))

-- the configuration of texts and a number that are these values
pub of_values : (tester unit tester_value unit_value : Text) (functional functional_value : Option (Option Id)) (limit limit_value : ℕ) (result : Result Settings WordsFault)
    → tester ≡ tester_value → unit ≡ unit_value → functional ≡ functional_value → limit ≡ limit_value
    → IsConfiguredBy (identifier_of tester) (identifier_of unit) functional limit result
    → IsConfiguredBy (identifier_of tester_value) (identifier_of unit_value) functional_value limit_value result
of_values tester unit tester_value unit_value functional functional_value limit limit_value result same_tester same_unit same_functional same_limit by =
    subst (λ t. IsConfiguredBy (identifier_of t) (identifier_of unit_value) functional_value limit_value result) same_tester
    (subst (λ u. IsConfiguredBy (identifier_of tester) (identifier_of u) functional_value limit_value result) same_unit
    (subst (λ f. IsConfiguredBy (identifier_of tester) (identifier_of unit) f limit_value result) same_functional
    (subst (λ n. IsConfiguredBy (identifier_of tester) (identifier_of unit) functional n result) same_limit by)))

-- a fault that is none of the parser's
abbrev IsOfValues : WordsFault → Type 0
IsOfValues (Help text) = ⊥
IsOfValues (Words text) = ⊥
IsOfValues Identifier = ⊤
IsOfValues (Config fault) = ⊤
IsOfValues (Misfit line) = ⊤
IsOfValues (Unread line) = ⊤
IsOfValues Memory = ⊤

-- no configuration of identifiers is none of the parser's
of_identifiers : (tester unit : Id) (functional : Option Id) (limit : ℕ) (fault : WordsFault) → IsConfiguredAs tester unit functional limit (Err fault) → IsOfValues fault
of_identifiers tester unit functional limit (Help text) by = by
of_identifiers tester unit functional limit (Words text) by = by
of_identifiers tester unit functional limit Identifier by = tt
of_identifiers tester unit functional limit (Config fault) by = tt
of_identifiers tester unit functional limit (Misfit line) by = tt
of_identifiers tester unit functional limit (Unread line) by = tt
of_identifiers tester unit functional limit Memory by = tt

of_no_identifier : (fault : WordsFault) → ◌≡◌ {A = Result Settings WordsFault} (Err fault) (Err Identifier) → IsOfValues fault
of_no_identifier fault by =
    let is : fault ≡ Identifier = cc in
    subst IsOfValues (sym is) tt

of_fault : (tester unit : Option Id) (functional : Option (Option Id)) (limit : ℕ) (fault : WordsFault) → IsConfiguredBy tester unit functional limit (Err fault) → IsOfValues fault
of_fault (Some tester) (Some unit) None limit fault by = of_identifiers tester unit None limit fault by
of_fault (Some tester) (Some unit) (Some None) limit fault by = of_no_identifier fault by
of_fault (Some tester) (Some unit) (Some (Some functional)) limit fault by = of_identifiers tester unit (Some functional) limit fault by
of_fault (Some tester) None functional limit fault by = of_no_identifier fault by
of_fault None unit functional limit fault by = of_no_identifier fault by

-- nor is what is told of a profile
of_told : (line : List ℕ) (fault : WordsFault) → IsTold line fault → IsOfValues fault
of_told line (Help text) by = by
of_told line (Words text) by = by
of_told line Identifier by = tt
of_told line (Config fault) by = tt
of_told line (Misfit told) by = tt
of_told line (Unread told) by = tt
of_told line Memory by = tt

of_unread : (line : List ℕ) (fault : WordsFault) → IsToldUnread line fault → IsOfValues fault
of_unread line (Help text) by = by
of_unread line (Words text) by = by
of_unread line Identifier by = tt
of_unread line (Config fault) by = tt
of_unread line (Misfit told) by = tt
of_unread line (Unread told) by = tt
of_unread line Memory by = tt

of_memory : (fault : WordsFault) → ◌≡◌ {A = Result Settings WordsFault} (Err fault) (Err Memory) → IsOfValues fault
of_memory fault by =
    let is : fault ≡ Memory = cc in
    subst IsOfValues (sym is) tt

-- rules change no fault
of_under : (rules : List RuleValue) (IsPlain : Result Settings WordsFault → Type 0) (fault : WordsFault) → ((plain : WordsFault) → IsPlain (Err plain) → IsOfValues plain)
    → IsUnder rules IsPlain (Err fault) → IsOfValues fault
of_under rules IsPlain fault each (Ok settings, by, is) = absurd cc
of_under rules IsPlain fault each (Err plain, by, is) =
    let same : fault ≡ plain = cc in
    subst IsOfValues (sym same) (each plain by)

of_sides : (sides : Option RunIdentifiers) (rows : List Row) (fault : WordsFault) → IsOfSides sides rows (Err fault) → IsOfValues fault
of_sides None rows fault by = of_fault (tester_in rows) (unit_in rows) (functional_in rows) (limit_in rows) fault by
of_sides (Some sides) rows fault by = of_identifiers sides.tester sides.unit sides.functional (limit_in rows) fault by

of_choice : (file : Text) (rows : List Row) (profile : ProfileValue) (choice : Result (Option RunIdentifiers) ChoiceFault) (fault : WordsFault) → IsOfChoice file rows profile choice (Err fault)
    → IsOfValues fault
of_choice file rows profile (Ok sides) fault by = of_under profile.rules (IsOfSides sides rows) fault (of_sides sides rows) by
of_choice file rows profile (Err none) fault by = of_told (choice_line file profile.units (first_of (codes "only") rows) none) fault by

of_beside : (option : Option Text) (file : Text) (rows : List Row) (profile : ProfileValue) (fault : WordsFault) → IsBeside option file rows profile (Err fault) → IsOfValues fault
of_beside (Some option) file rows profile fault by = of_told (beside_line option file) fault by
of_beside None file rows profile fault by = of_choice file rows profile (chosen_of profile.units (first_of (codes "only") rows)) fault by

of_bytes : (file : Text) (rows : List Row) (text : List ℕ) (fault : WordsFault) → IsOfBytes file rows text (Err fault) → IsOfValues fault
of_bytes file rows text fault (inl (profile, readable, asked, by)) = of_beside (side_beside profile.units rows) file rows profile fault by
of_bytes file rows text fault (inr (inl (line, told, wrong, by))) = of_told (line_about file told) fault by
of_bytes file rows text fault (inr (inr (memory, wants))) = of_memory fault memory

of_seen : (file : Text) (rows : List Row) (what : SeenProfile) (fault : WordsFault) → IsOfSeen file rows what (Err fault) → IsOfValues fault
of_seen file rows (seen.Read text) fault by = of_bytes file rows text.items fault by
of_seen file rows seen.Unread fault by = of_unread (line_about file (codes "read failed")) fault by
of_seen file rows seen.Shared fault by = of_told (codes "profile and log are the same stream\n") fault by
of_seen file rows seen.Memory fault by = of_memory fault by

of_style : (both : Bool) (rows : List Row) (fault : WordsFault) → IsInOneStyle both rows (Err fault) → IsOfValues fault
of_style true rows fault by = of_told (codes "--json beside --toml\n") fault by
of_style false rows fault by = of_fault (tester_in rows) (unit_in rows) (functional_in rows) (limit_in rows) fault by

of_without : (only : Option Text) (rows : List Row) (fault : WordsFault) → IsWithout only rows (Err fault) → IsOfValues fault
of_without None rows fault by = of_style (asks_for_both rows) rows fault by
of_without (Some only) rows fault by = of_told (codes "--only without --profile\n") fault by

of_named : (file : Option Text) (rows : List Row) (what : SeenProfile) (fault : WordsFault) → IsNamed file rows what (Err fault) → IsOfValues fault
of_named None rows what fault by = of_without (first_of (codes "only") rows) rows fault by
of_named (Some file) rows what fault by = of_seen file rows what fault by

-- why there is no configuration is why there is no plan
pub refused_for : (asked : Task) (rows : List Row) (what : SeenProfile) (fault : WordsFault) → IsConfigured rows what (Err fault) → IsRefusedFor asked rows what fault
refused_for asked rows what (Help text) by = of_named (first_of (codes "profile") rows) rows what (Help text) by
refused_for asked rows what (Words text) by = absurd (of_named (first_of (codes "profile") rows) rows what (Words text) by)
refused_for asked rows what Identifier by = by
refused_for asked rows what (Config fault) by = by
refused_for asked rows what (Misfit line) by = by
refused_for asked rows what (Unread line) by = by
refused_for asked rows what Memory by = tt

-- the same, as a `?` hands it on
pub refused_when : (asked : Task) (rows : List Row) (what : SeenProfile) (result : Result Plan WordsFault) (fault : WordsFault) (config : Result Settings WordsFault)
    → IsErrAnd result (λ f. f ≡ fault) → config ≡ Err fault → IsConfigured rows what config → IfErr result (IsRefusedFor asked rows what)
refused_when asked rows what (Ok plan) fault config is failed by = tt
refused_when asked rows what (Err other) fault config is failed by =
    subst (IsRefusedFor asked rows what) (sym is) (refused_for asked rows what fault (subst (IsConfigured rows what) failed by))
