-- Each name is plain, since each row of each table is.
use Rattle.std.proofs.Common.{◌≡◌, ℕ, ◌%◌, Bool, true, false, List, [], ◌∷◌, Option, Some, None, refl, codes}
use Rattle.std.specs.Prelude.{◌==◌, if◌then◌else◌}
use Rattle.std.specs.List.{list_all}
use Rattle.std.proofs.lemmas.Bool.{and_parts}
use Rattle.uds_names.specs.Names.{Named, name_in, is_within}
use Rattle.uds_names.specs.Services.{kwp_services, obd_services}
use Rattle.uds_names.specs.SubFunctions.{communications, links, name_by_number, presences, reports, resets, routine_controls, security_name, sessions, settings}
use Rattle.uds_names.specs.Identifiers.{data_identifiers, data_identifier_name, routines}
use Rattle.uds_names.specs.ResponseCodes.{further_codes, response_code_name}
use Rattle.uds_names.specs.TroubleCodes.{status_bits}
use Rattle.uds_names.specs.Laws.{is_plain, is_plain_name, NamesArePlain}

-- of two names that are plain, whichever it is
chosen : (test : Bool) (one other : Option (List ℕ)) → is_plain_name one ≡ true → is_plain_name other ≡ true
    → is_plain_name (if test then one else other) ≡ true
chosen true one other plain rest = plain
chosen false one other plain rest = rest

-- the name of a row is plain
abbrev has_plain_name : Named → Bool
has_plain_name row = list_all is_plain row.name

-- a name of a table whose rows all have plain ones
in_table : (rows : List Named) → list_all has_plain_name rows ≡ true → (number : ℕ) → is_plain_name (name_in rows number) ≡ true
in_table [] all number = refl
in_table (row ∷ rows) all number =
    let parts = and_parts (has_plain_name row) (list_all has_plain_name rows) all in
    chosen (number == row.number) (Some row.name) (name_in rows number) parts.0 (in_table rows parts.1 number)

security_plain : (level : ℕ) → is_plain_name (security_name level) ≡ true
security_plain level =
    chosen (is_within 0x01 0x42 level) (if level % 2 == 1 then Some (codes "requestSeed") else Some (codes "sendKey")) None
    (chosen (level % 2 == 1) (Some (codes "requestSeed")) (Some (codes "sendKey")) refl refl) refl

sub_function_plain : (service number : ℕ) → is_plain_name (name_by_number service number) ≡ true
sub_function_plain service number =
    chosen (service == 0x10) _ _ (in_table sessions refl number)
    (chosen (service == 0x11) _ _ (in_table resets refl number)
    (chosen (service == 0x19) _ _ (in_table reports refl number)
    (chosen (service == 0x27) _ _ (security_plain number)
    (chosen (service == 0x28) _ _ (in_table communications refl number)
    (chosen (service == 0x31) _ _ (in_table routine_controls refl number)
    (chosen (service == 0x3E) _ _ (in_table presences refl number)
    (chosen (service == 0x85) _ _ (in_table settings refl number)
    (chosen (service == 0x87) _ _ (in_table links refl number) refl))))))))

identifier_plain : (identifier : ℕ) → is_plain_name (data_identifier_name identifier) ≡ true
identifier_plain identifier =
    chosen (is_within 0xF200 0xF2FF identifier) _ _ refl
    (chosen (is_within 0xF300 0xF3FF identifier) _ _ refl
    (chosen (is_within 0xF400 0xF4FF identifier) _ _ refl
    (chosen (is_within 0xF600 0xF6FF identifier) _ _ refl
    (chosen (is_within 0xF800 0xF8FF identifier) _ _ refl (in_table data_identifiers refl identifier)))))

code_plain : (code : ℕ) → is_plain_name (response_code_name code) ≡ true
code_plain code =
    chosen (is_within 0x95 0xEF code) _ _ refl (chosen (is_within 0xF0 0xFE code) _ _ refl (in_table further_codes refl code))

pub names_are_plain : NamesArePlain
names_are_plain first second = (
  sub_function_plain first (second % 0x80),
  identifier_plain first,
  in_table routines refl first,
  code_plain first,
  in_table obd_services refl first,
  in_table kwp_services refl first,
  in_table status_bits refl first,
)
