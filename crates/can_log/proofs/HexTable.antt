-- The table of hexadecimal digits.
use Rattle.std.proofs.Common.{◌≡◌, ℕ, ◌<◌, Bool, true, false, map, cond, get_or, ltb, refl, ap, ◌∙◌, arith}
use Rattle.std.proofs.lemmas.Bool.{lt-ltb}
use Rattle.std.proofs.lemmas.List.FromFn.{get_or-map-range_with_len}
use Rattle.std.specs.List.{range_with_len}
use Rattle.std.specs.Char.{is_ascii_hexdigit, digit_value}
use Rattle.can_log.specs.declared.hexadecimal.TheConstants.{DIGIT_VALUES}
use Rattle.can_log.proofs.DigitValues.{hex_value}

abbrev mark : ℕ → ℕ
mark b = cond (is_ascii_hexdigit b) (digit_value b) 255

-- the table has the mark of each byte
table_is : DIGIT_VALUES ≡ map mark (range_with_len 0 256)
table_is = refl

marked : (b : ℕ) → b < 256 → get_or DIGIT_VALUES b 0 ≡ mark b
marked b h = ap (λ t. get_or t b 0) table_is ∙ get_or-map-range_with_len mark 0 256 b b 0 h (omega arith)

pub is_digit : (b : ℕ) → b < 256 → ltb (get_or DIGIT_VALUES b 0) 16 ≡ is_ascii_hexdigit b
is_digit b h = ap (λ (n : ℕ). ltb n 16) (marked b h) ∙ by (is_ascii_hexdigit b) refl
  where
    by : (t : Bool) → is_ascii_hexdigit b ≡ t → ltb (cond t (digit_value b) 255) 16 ≡ t
    by true e = lt-ltb (digit_value b) 16 (hex_value b e).0
    by false e = refl

pub value_is_digit : (b : ℕ) → b < 256 → is_ascii_hexdigit b ≡ true → get_or DIGIT_VALUES b 0 ≡ digit_value b
value_is_digit b h e = marked b h ∙ ap (λ (t : Bool). cond t (digit_value b) 255) e
