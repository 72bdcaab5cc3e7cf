-- What a call is handed asks for one configuration at most, and where it asks for one, only refused memory may be told instead.
use Rattle.std.proofs.Common.{◌≡◌, ◌∙◌, ◌≤◌, ℕ, List, [], ◌∷◌, Option, Some, None, Result, Ok, Err, arith, ap, refl, sym, subst, inl, inr, option_map}
use Rattle.can_log.specs.declared.frame.Id.{Id}
use Rattle.uds_rules.specs.Rule.{RuleValue}
use Rattle.profile.specs.Profile.{ProfileValue, profile_of}
use Rattle.profile.specs.Wrong.{WrongValue}
use Rattle.asked_profile.specs.Asked.{IsReadable, IsWrong, asked_by, is_long, is_no_profile, is_not_toml}
use Rattle.asked_profile.specs.Choice.{chosen_of}
use Rattle.asked_profile.specs.declared.choice.ChoiceFault.{ChoiceFault}
use Rattle.asked_profile.specs.declared.choice.RunIdentifiers.{RunIdentifiers}
use Rattle.trace_log.specs.Settings.{Adds, AreSettings, Configures, ConfiguresSession, IsFunctionalOf, Settings}
use Rattle.trace_log.specs.declared.fault.ConfigFault.{ConfigFault}
use Rattle.trace_log.specs.declared.fault.ConfigFault.TheVariants.{IdRange, SameId, SameFunctional, LimitRange}
use Rattle.udsnorm_c.specs.Given.{Configured, ConfiguresChosen, ConfiguresProfile, ConfiguresUnder, GivenValue, IsProfile, IsWrongText, name_given}
use Rattle.udsnorm_c.specs.Spelled.{identifier_of}
use Rattle.udsnorm_c.specs.declared.given.NoConfig.{NoConfig}
use Rattle.udsnorm_c.specs.declared.given.NoConfig.TheVariants as no

-- ---- one configuration

session_is : (tester unit : Id) (functional : Option Id) (max_bytes : ℕ) (settings : Settings) → ConfiguresSession tester unit functional max_bytes (Ok settings)
    → settings ≡ record { tester = tester; unit = unit; functional = functional; max_bytes = max_bytes; rules = [] }
session_is tester unit functional max_bytes settings (Err fault, by, adds) = absurd (cc adds)
session_is tester unit None max_bytes settings (Ok plain, by, adds) = (let same : settings ≡ plain = cc adds in same ∙ by.0)
session_is tester unit (Some functional) max_bytes settings (Ok plain, by, adds) =
    adds.0 ∙ ap (λ (s : Settings). record s { functional = Some functional }) by.0

under_is : (rules : List RuleValue) (tester unit : Id) (functional : Option Id) (max_bytes : ℕ) (settings : Settings)
    → ConfiguresUnder rules tester unit functional max_bytes (Ok settings)
    → settings ≡ record { tester = tester; unit = unit; functional = functional; max_bytes = max_bytes; rules = rules }
under_is rules tester unit functional max_bytes settings (plain, by, same, all) =
    same ∙ ap (λ (s : Settings). record s { rules = rules }) (session_is tester unit functional max_bytes plain by)

chosen_is_one : (given : GivenValue) (profile : ProfileValue) (choice : Result (Option RunIdentifiers) ChoiceFault) (one other : Settings) → ConfiguresChosen given profile choice (Ok one)
    → ConfiguresChosen given profile choice (Ok other) → one ≡ other
chosen_is_one given profile (Ok None) one other is too = under_is _ _ _ None _ one is ∙ sym (under_is _ _ _ None _ other too)
chosen_is_one given profile (Ok (Some sides)) one other is too = under_is _ _ _ _ _ one is ∙ sym (under_is _ _ _ _ _ other too)
chosen_is_one given profile (Err fault) one other is too = absurd is

some_is_one : (one other : ProfileValue) (read : Option (Result ProfileValue WrongValue)) → read ≡ Some (Ok one) → read ≡ Some (Ok other) → one ≡ other
some_is_one one other read is too = cc

profile_is_one : (text : List ℕ) (one other : ProfileValue) → IsProfile text one → IsProfile text other → one ≡ other
profile_is_one [] one other is too = is ∙ sym too
profile_is_one (byte ∷ rest) one other is too = some_is_one one other (asked_by (byte ∷ rest)) is.1 too.1

pub config_is_one : (given : GivenValue) (one other : Settings) → Configured given (Ok one) → Configured given (Ok other) → one ≡ other
config_is_one given one other (inl (profile, is, by)) (inl (again, too, so)) =
    chosen_is_one given profile (chosen_of profile.units (name_given given.only)) one other by
    (subst (λ (p : ProfileValue). ConfiguresProfile given p (Ok other)) (sym (profile_is_one given.profile profile again is too)) so)
config_is_one given one other (inl is) (inr wrong) = absurd wrong
config_is_one given one other (inr wrong) too = absurd wrong

-- ---- and settings that there are

under_are : (rules : List RuleValue) (tester unit : Id) (functional : Option Id) (max_bytes : ℕ) (settings : Settings)
    → ConfiguresUnder rules tester unit functional max_bytes (Ok settings) → AreSettings settings
under_are rules tester unit functional max_bytes settings (plain, by, same, all) = all

chosen_are : (given : GivenValue) (profile : ProfileValue) (choice : Result (Option RunIdentifiers) ChoiceFault) (settings : Settings) → ConfiguresChosen given profile choice (Ok settings) → AreSettings settings
chosen_are given profile (Ok None) settings is = under_are _ _ _ None _ settings is
chosen_are given profile (Ok (Some sides)) settings is = under_are _ _ _ _ _ settings is
chosen_are given profile (Err fault) settings is = absurd is

pub are_given : (given : GivenValue) (settings : Settings) → Configured given (Ok settings) → AreSettings settings
are_given given settings (inl (profile, is, by)) = chosen_are given profile (chosen_of profile.units (name_given given.only)) settings by
are_given given settings (inr wrong) = absurd wrong

-- ---- or refused memory

-- there are settings with the parts of settings
plain_are_there : (rules : List RuleValue) (tester unit : Id) (functional : Option Id) (max_bytes : ℕ) (fault : ConfigFault) → Configures tester unit max_bytes (Err fault)
    → AreSettings (record { tester = tester; unit = unit; functional = functional; max_bytes = max_bytes; rules = rules }) → ⊥
plain_are_there rules tester unit functional max_bytes IdRange (inl none) are = none are.tester
plain_are_there rules tester unit functional max_bytes IdRange (inr none) are = none are.unit
plain_are_there rules tester unit functional max_bytes SameId (of_tester, of_unit, same) are = are.apart same
plain_are_there rules tester unit functional max_bytes SameFunctional none are = none
plain_are_there rules tester unit functional max_bytes LimitRange (of_tester, of_unit, apart, inl zero) are =
    let least = are.least in omega (arith, zero, least)
plain_are_there rules tester unit functional max_bytes LimitRange (of_tester, of_unit, apart, inr above) are =
    let most = are.most in omega (arith, above, most)

added_are_there : (tester unit functional : Id) (plain : Settings) (fault : ConfigFault) → plain.tester ≡ tester → plain.unit ≡ unit → Adds plain functional (Err fault)
    → IsFunctionalOf tester unit (Some functional) → ⊥
added_are_there tester unit functional plain IdRange tester_is unit_is none are = none are.0
added_are_there tester unit functional plain SameId tester_is unit_is none are = none
added_are_there tester unit functional plain SameFunctional tester_is unit_is (fits, inl same) are = are.1 (same ∙ tester_is)
added_are_there tester unit functional plain SameFunctional tester_is unit_is (fits, inr same) are = are.2 (same ∙ unit_is)
added_are_there tester unit functional plain LimitRange tester_is unit_is none are = none

settings_are_there : (rules : List RuleValue) (tester unit : Id) (functional : Option Id) (max_bytes : ℕ) (fault : ConfigFault)
    → ConfiguresSession tester unit functional max_bytes (Err fault)
    → AreSettings (record { tester = tester; unit = unit; functional = functional; max_bytes = max_bytes; rules = rules }) → ⊥
settings_are_there rules tester unit functional max_bytes fault (Err first, by, adds) are = plain_are_there rules tester unit functional max_bytes first by are
settings_are_there rules tester unit None max_bytes fault (Ok plain, by, adds) are = absurd (cc adds)
settings_are_there rules tester unit (Some functional) max_bytes fault (Ok plain, by, adds) are =
    added_are_there tester unit functional plain fault (ap (λ (s : Settings). s.tester) by.0) (ap (λ (s : Settings). s.unit) by.0) adds are.functional

under_or_memory : (rules : List RuleValue) (tester unit : Id) (functional : Option Id) (max_bytes : ℕ) (settings : Settings) (why : NoConfig)
    → ConfiguresUnder rules tester unit functional max_bytes (Ok settings)
    → ConfiguresUnder rules tester unit functional max_bytes (Err why) → why ≡ no.Memory
under_or_memory rules tester unit functional max_bytes settings (no.Config fault) is too =
    absurd (settings_are_there rules tester unit functional max_bytes fault too
    (subst AreSettings (under_is rules tester unit functional max_bytes settings is) (under_are rules tester unit functional max_bytes settings is)))
under_or_memory rules tester unit functional max_bytes settings (no.Profile told) is too = absurd too
under_or_memory rules tester unit functional max_bytes settings no.Memory is too = absurd too

chosen_or_memory : (given : GivenValue) (profile : ProfileValue) (choice : Result (Option RunIdentifiers) ChoiceFault) (settings : Settings) (why : NoConfig)
    → ConfiguresChosen given profile choice (Ok settings) → ConfiguresChosen given profile choice (Err why) → why ≡ no.Memory
chosen_or_memory given profile (Ok None) settings why is too = under_or_memory _ _ _ None _ settings why is too
chosen_or_memory given profile (Ok (Some sides)) settings why is too = under_or_memory _ _ _ _ _ settings why is too
chosen_or_memory given profile (Err fault) settings why is too = absurd is

none_is_some : (one : ProfileValue) (read : Option (Result ProfileValue WrongValue)) → read ≡ Some (Ok one) → read ≡ None → ⊥
none_is_some one read is too = cc

wrong_is_right : (one : ProfileValue) (wrong : WrongValue) (read : Option (Result ProfileValue WrongValue)) → read ≡ Some (Ok one) → read ≡ Some (Err wrong) → ⊥
wrong_is_right one wrong read is too = cc

not_wrong : (text : List ℕ) (profile : ProfileValue) (line : ℕ) (told : List ℕ) → IsReadable text → asked_by text ≡ Some (Ok profile) → IsWrong text line told → ⊥
not_wrong text profile line told readable is (is_long long) = (let short = readable.0 in omega (arith, long, short))
not_wrong text profile line told readable is (is_not_toml at column short none place) =
    none_is_some profile (asked_by text) is (ap (λ document. option_map profile_of document) (none readable.1))
not_wrong text profile line told readable is (is_no_profile document wrong also parsed of_document) =
    wrong_is_right profile wrong (asked_by text) is (ap (λ document. option_map profile_of document) parsed ∙ ap Some of_document)

text_or_memory : (text : List ℕ) (profile : ProfileValue) (why : NoConfig) → IsProfile text profile → IsWrongText text why → why ≡ no.Memory
text_or_memory [] profile why is wrong = absurd wrong
text_or_memory (byte ∷ rest) profile (no.Config fault) is wrong = absurd wrong
text_or_memory (byte ∷ rest) profile (no.Profile told) is wrong = absurd (not_wrong (byte ∷ rest) profile told.line told.text.items is.0 is.1 wrong)
text_or_memory (byte ∷ rest) profile no.Memory is wrong = refl

pub config_or_memory : (given : GivenValue) (settings : Settings) (why : NoConfig) → Configured given (Ok settings) → Configured given (Err why) → why ≡ no.Memory
config_or_memory given settings why (inl (profile, is, by)) (inl (again, too, so)) =
    chosen_or_memory given profile (chosen_of profile.units (name_given given.only)) settings why by
    (subst (λ (p : ProfileValue). ConfiguresProfile given p (Err why)) (sym (profile_is_one given.profile profile again is too)) so)
config_or_memory given settings why (inl (profile, is, by)) (inr wrong) = text_or_memory given.profile profile why is wrong
config_or_memory given settings why (inr wrong) too = absurd wrong
