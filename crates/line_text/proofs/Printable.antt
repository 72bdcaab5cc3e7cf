-- Texts without a control character.
use Prim.Native.Char.{code}
use Prim.Native.Nat.{zero, suc}
use Rattle.std.proofs.Common.{◌≡◌, ℕ, ◌/◌, ◌%◌, ◌<◌, ◌&&◌, ◌||◌, ◌==◌, not, Bool, true, List, [], ◌∷◌, ◌++◌, take, codes, length, nat_le, inl, inr, refl, ap, sym, ◌∙◌, arith}
use Rattle.std.specs.Char.{is_ascii_alphanumeric}
use Rattle.std.specs.List.{flat_map, list_all}
use Rattle.std.proofs.lemmas.Bool.{and_parts, cases_Bool, false≢true}
use Rattle.std.proofs.lemmas.Bool.Decides.{nat_tests}
use Rattle.std.proofs.lemmas.List.Folds.{list_all-append}
use Rattle.can_log.specs.Digits.{digit}
use Rattle.can_log.specs.Frame.{AreBytes}
use Rattle.line_text.specs.Clipped.{is_quotable, as_written}
use Rattle.line_text.specs.Laws.{is_no_control, NameWritesNoControl, ClippedWritesNoControl, AsWrittenWritesNoControl}
use Rattle.line_text.specs.Quoted.{is_plain, is_plain_name, is_printable, quoted_byte, quoted}

-- where each byte that passes one test passes another, so do all
all_weaker : (passes other : ℕ → Bool) → ((b : ℕ) → passes b ≡ true → other b ≡ true) → (bytes : List ℕ) → list_all passes bytes ≡ true → list_all other bytes ≡ true
all_weaker passes other weaker [] all = refl
all_weaker passes other weaker (b ∷ bytes) all =
    let parts = and_parts (passes b) (list_all passes bytes) all in
    rw (weaker b parts.0) (all_weaker passes other weaker bytes parts.1)

both : (one other : List ℕ) → list_all is_no_control one ≡ true → list_all is_no_control other ≡ true → list_all is_no_control (one ++ other) ≡ true
both one other first second = list_all-append is_no_control one other ∙ rw (first, second) refl

plain : (b : ℕ) → is_plain b ≡ true → is_no_control b ≡ true
plain b is = grind (arith, nat_tests)

printable : (b : ℕ) → is_printable b ≡ true → is_no_control b ≡ true
printable b is =
    let bare = and_parts (nat_le 32 b && nat_le b 126 && not (b == code "'")) (not (b == code "\\")) is in
    (and_parts (nat_le 32 b && nat_le b 126) (not (b == code "'")) bare.0).0

quotable : (b : ℕ) → is_quotable b ≡ true → is_no_control b ≡ true
quotable b is = (and_parts (nat_le 32 b && nat_le b 126) (not (b == code "\"")) is).0

digit_printable : (d : ℕ) → d < 16 → is_no_control (digit d) ≡ true
digit_printable d small = grind (arith, nat_tests)

byte_printable : (b : ℕ) → b < 256 → list_all is_no_control (quoted_byte b) ≡ true
byte_printable b small =
    elim (cases_Bool (is_printable b)) [
      | inl is ↦ rw is (rw (printable b is) refl)
      | inr other ↦ rw other (rw (digit_printable (b / 16) (omega arith), digit_printable (b % 16) (omega arith)) refl)
    ]

bytes_printable : (name : List ℕ) → AreBytes name → list_all is_no_control (flat_map quoted_byte name) ≡ true
bytes_printable [] small = refl
bytes_printable (b ∷ name) small = both (quoted_byte b) (flat_map quoted_byte name) (byte_printable b small.0) (bytes_printable name small.1)

pub name_writes_no_control : NameWritesNoControl
name_writes_no_control name small =
    elim (cases_Bool (is_plain_name name)) [
      | inl is ↦
          (let each = and_parts (not (length name == 0)) (list_all is_plain name) is in
          rw is (all_weaker is_plain is_no_control plain name each.1))
      | inr other ↦
          rw other
          (both (codes "$'") (flat_map quoted_byte name ++ codes "'") refl (both (flat_map quoted_byte name) (codes "'") (bytes_printable name small) refl))
    ]

-- the first bytes of some are bytes
front_small : (count : ℕ) (bytes : List ℕ) → AreBytes bytes → AreBytes (take count bytes)
front_small zero bytes small = tt
front_small (suc count) [] small = tt
front_small (suc count) (b ∷ bytes) small = (small.0, front_small count bytes small.1)

pub clipped_writes_no_control : ClippedWritesNoControl
clipped_writes_no_control name small = name_writes_no_control (take 80 name) (front_small 80 name small)

written : (text : List ℕ) → AreBytes text → list_all is_no_control (as_written text) ≡ true
written text small =
    elim (cases_Bool (list_all is_quotable text)) [
      | inl each ↦ rw each (both (codes "\"") (text ++ codes "\"") refl (both text (codes "\"") (all_weaker is_quotable is_no_control quotable text each) refl))
      | inr other ↦ rw other (name_writes_no_control text small)
    ]

pub as_written_writes_no_control : AsWrittenWritesNoControl
as_written_writes_no_control text small = written (take 80 text) (front_small 80 text small)
