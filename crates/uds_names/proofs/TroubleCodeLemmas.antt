-- What holds of trouble codes: they are plain, their bytes are read back, and a message has whole ones.
use Rattle.std.proofs.Common.{◌≡◌, ℕ, ◌+◌, ◌*◌, ◌/◌, ◌%◌, ◌<◌, Bool, true, false, List, [], ◌∷◌, length, refl, arith}
use Rattle.std.specs.Prelude.{◌==◌, if◌then◌else◌, drop}
use Rattle.std.specs.Char.{digit_value}
use Rattle.std.proofs.lemmas.Bool.Decides.{nat_tests}
use Rattle.std.proofs.lemmas.List.{length-take}
use Rattle.can_log.specs.Digits.{digit, digits}
use Rattle.uds_names.specs.TroubleCodes.{begins_with_code, first_record, lists_codes, records_of_report, system_letter, whole_records}
use Rattle.uds_names.specs.Laws.{is_plain, system_of, TroubleCodesArePlain, TroubleCodeIsReadBack, TroubleRecordsAreWhole}

letter_plain : (system : ℕ) → is_plain (system_letter system) ≡ true
letter_plain system = grind (arith, nat_tests)

digit_plain : (d : ℕ) → d < 16 → is_plain (digit d) ≡ true
digit_plain d small = grind (arith, nat_tests)

pub trouble_codes_are_plain : TroubleCodesArePlain
unfolding digits
trouble_codes_are_plain high middle low =
    rw (
      letter_plain (high / 0x40),
      digit_plain (high % 0x40 / 16 % 16) (omega arith),
      digit_plain (high % 0x40 % 16) (omega arith),
      digit_plain (middle / 16 % 16) (omega arith),
      digit_plain (middle % 16) (omega arith),
      digit_plain (low / 16 % 16) (omega arith),
      digit_plain (low % 16) (omega arith),
    ) refl

letter_read : (system : ℕ) → system < 4 → system_of (system_letter system) ≡ system
letter_read system small = grind (arith, nat_tests)

digit_read : (d : ℕ) → d < 16 → digit_value (digit d) ≡ d
digit_read d small = grind (arith, nat_tests)

pub trouble_code_is_read_back : TroubleCodeIsReadBack
unfolding digits
trouble_code_is_read_back high middle low small_high small_middle small_low =
    let of_high : 0x40 * (high / 0x40) + (16 * (high % 0x40 / 16 % 16) + high % 0x40 % 16) ≡ high = omega (arith, small_high) in
    let of_middle : 16 * (middle / 16 % 16) + middle % 16 ≡ middle = omega (arith, small_middle) in
    let of_low : 16 * (low / 16 % 16) + low % 16 ≡ low = omega (arith, small_low) in
    rw (
      letter_read (high / 0x40) (omega (arith, small_high)),
      digit_read (high % 0x40 / 16 % 16) (omega arith),
      digit_read (high % 0x40 % 16) (omega arith),
      digit_read (middle / 16 % 16) (omega arith),
      digit_read (middle % 16) (omega arith),
      digit_read (low / 16 % 16) (omega arith),
      digit_read (low % 16) (omega arith),
      of_high,
      of_middle,
      of_low,
    ) refl

-- of two lists of whole codes, whichever it is
chosen : (test : Bool) (one other : List ℕ) → length one % 4 ≡ 0 → length other % 4 ≡ 0 → length (if test then one else other) % 4 ≡ 0
chosen true one other whole rest = whole
chosen false one other whole rest = rest

whole : (bytes : List ℕ) → length (whole_records bytes) % 4 ≡ 0
whole bytes = grind (arith, nat_tests)

first_whole : (bytes : List ℕ) → length (first_record bytes) % 4 ≡ 0
first_whole bytes = grind (arith, nat_tests, length-take)

report_whole : (report : ℕ) (rest : List ℕ) → length (records_of_report report rest) % 4 ≡ 0
report_whole report rest =
    chosen (lists_codes report) (whole_records (drop 1 rest)) _ (whole (drop 1 rest))
    (chosen (begins_with_code report) (first_record rest) [] (first_whole rest) refl)

pub trouble_records_are_whole : TroubleRecordsAreWhole
trouble_records_are_whole [] = refl
trouble_records_are_whole (first ∷ []) = refl
trouble_records_are_whole (first ∷ report ∷ rest) = chosen (first == 0x59) (records_of_report report rest) [] (report_whole report rest) refl
