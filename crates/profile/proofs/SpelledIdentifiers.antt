-- The identifier that a text of hexadecimal digits spells.
use Rattle.std.specs.Prelude.{IsSomeAnd}
use Rattle.std.proofs.Common.{Option, Some, None, ◌≡◌, ◌≢◌, ℕ, ◌<◌, ◌≤◌, ◌^◌, true, List, [], ◌∷◌, length, get_or, ap, arith, Result, Ok}
use Rattle.std.specs.Char.{is_ascii_hexdigit, digit_value}
use Rattle.std.specs.List.{list_all}
use Rattle.std.specs.Str.Parse.{AllDigits, digits_value, ParsesUnsigned}
use Rattle.std.proofs.lemmas.Bool.{and_parts}
use Rattle.std.proofs.lemmas.Bool.Decides.{nat_tests}
use Rattle.std.proofs.lemmas.Int.Digits.{digits_value-lt}
use Rattle.std.proofs.lemmas.Result.{Ok-from_Ok_iff}
use Rattle.std.proofs.lemmas.Str.Parse.{without_leading_plus_none}

hex_value : (b : ℕ) → is_ascii_hexdigit b ≡ true → (digit_value b < 16) × (b ≢ 43)
hex_value b h = grind (arith, nat_tests)

all_digits : (text : List ℕ) → list_all is_ascii_hexdigit text ≡ true → AllDigits 16 text
all_digits [] each = tt
all_digits (b ∷ text) each =
    let parts = and_parts (is_ascii_hexdigit b) (list_all is_ascii_hexdigit text) each in
    ((hex_value b parts.0).0, all_digits text parts.1)

no_plus : (text : List ℕ) → list_all is_ascii_hexdigit text ≡ true → get_or text 0 0 ≢ 43
no_plus [] each = λ is. absurd (omega arith)
no_plus (b ∷ text) each = (hex_value b (and_parts (is_ascii_hexdigit b) (list_all is_ascii_hexdigit text) each).0).1

-- a text of digits is read as their number, where the type has room for it
pub digits_are_read : {E : Type 0} (bits : ℕ) (text : List ℕ) (read : Result ℕ E) → ParsesUnsigned bits 16 text read → list_all is_ascii_hexdigit text ≡ true
    → 0 < length text → 16 ^ length text ≤ 2 ^ bits → read ≡ Ok (digits_value 16 text)
digits_are_read bits text read parses each some room =
    let bare = without_leading_plus_none text (no_plus text each) in
    let digits = all_digits text each in
    let below = digits_value-lt 16 text digits in
    Ok-from_Ok_iff read _ (digits_value 16 text) (rw bare at parses) ((some, digits), omega arith)

-- what is some, with this value
pub some_of : {A : Type 0} (result : Option A) (value : A) → IsSomeAnd result (λ x. x ≡ value) → result ≡ Some value
some_of (Some x) value is = ap Some is
some_of None value is = absurd is
