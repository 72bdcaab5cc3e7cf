-- The text of a message that rules have left is a word, and that of no other such message.
use Prim.Native.Char.{code}
use Prim.Native.Nat.{zero, suc}
use Rattle.std.proofs.Common.{◌≡◌, ℕ, ◌+◌, ◌-◌, ◌*◌, ◌/◌, ◌%◌, ◌<◌, Bool, true, false, List, [], ◌∷◌, ◌++◌, length, take, drop, arith, refl, ap, ap₂, sym, ◌∙◌, append-nil, append_assoc, Option, Some, None, inl, inr}
use Rattle.std.specs.Prelude.{nat_lt, ◌==◌, ◌&&◌, if◌then◌else◌}
use Rattle.std.proofs.lemmas.Bool.{cases_Bool, false≢true}
use Rattle.std.proofs.lemmas.Bool.Decides.{nat_tests}
use Rattle.std.proofs.lemmas.List.{take-append-drop}
use Rattle.std.proofs.lemmas.Option.{none-some, same_Some}
use Rattle.std.proofs.Math.Seq.{drop-append_seam}
use Rattle.can_log.specs.Digits.{digit, digits, hexadecimal}
use Rattle.can_log.specs.Frame.{AreBytes}
use Rattle.can_log.proofs.Promises.{AllByRecursion-append}
use Rattle.uds_rules.specs.Mask.{MaskValue, masked_bytes, masked}
use Rattle.uds_rules.specs.Rule.{RuleValue, speaks_of, is_spoken_of, made_by, made_of, mask_by, mask_of}
use Rattle.uds_rules.specs.declared.rule.Deed.{Deed}
use Rattle.uds_rules.specs.declared.rule.Deed.TheVariants as deed
use Rattle.trace_text.specs.RuledLaws.{IsLeft, NoRulesMarkNothing, UnspokenIsNotMarked, EqualMessagesHaveEqualTexts}
use Rattle.trace_text.specs.RuledText.{place_text, text_behind, places_text, masked_text, text_by, ruled_text}
use Rattle.trace_text.specs.Words.{bytes_text}
use Rattle.trace_text.proofs.TextWords.{IsWord, is_in_word, bytes_word, pair_word}

-- ---- words

place_word : (is_masked : Bool) (byte : ℕ) → IsWord (place_text is_masked byte)
place_word true byte = (refl, (refl, tt))
place_word false byte = pair_word byte

both_words : (one other : List ℕ) → IsWord one → IsWord other → IsWord (one ++ other)
both_words one other word too = AllByRecursion-append (λ d. is_in_word d ≡ true) one other word too

star_word : (b : Bool) → IsWord (if b then code "*" ∷ [] else [])
star_word true = (refl, tt)
star_word false = tt

places_word : (places : List Bool) (cuts : Bool) (bytes : List ℕ) → IsWord (places_text places cuts bytes)
places_word [] cuts bytes = both_words (bytes_text bytes) _ (bytes_word bytes) (star_word (cuts && (length bytes == 0)))
places_word (is_masked ∷ places) cuts [] = tt
places_word (is_masked ∷ places) cuts (byte ∷ bytes) =
    both_words (place_text is_masked byte) (places_text places cuts bytes) (place_word is_masked byte) (places_word places cuts bytes)

word_by : (found : Option (MaskValue × ℕ)) (message : List ℕ) → IsWord (text_by found message)
word_by None message = bytes_word message
word_by (Some found) message =
    both_words (bytes_text (take found.1 message)) (masked_text found.0 (drop found.1 message)) (bytes_word (take found.1 message))
    (places_word found.0.places found.0.cuts (drop found.1 message))

pub ruled_word : (rules : List RuleValue) (message : List ℕ) → IsWord (ruled_text rules message)
ruled_word rules message = word_by (mask_of rules message) message

-- ---- a text read back

-- the number of a digit
abbrev number_of : ℕ → ℕ
number_of d = if nat_lt d 58 then d - 48 else d - 55

-- the byte that two marks tell: 0 where it is masked
abbrev byte_of : ℕ → ℕ → ℕ
byte_of one two = if one == code "." then 0 else number_of one * 16 + number_of two

-- the bytes that a text tells; a `*` tells none
abbrev read : List ℕ → List ℕ
read [] = []
read (mark ∷ []) = []
read (one ∷ two ∷ rest) = byte_of one two ∷ read rest

digit_number : (d : ℕ) → d < 16 → number_of (digit d) ≡ d
digit_number d small = grind (arith, nat_tests)

no_mark : (d : ℕ) → d < 16 → (digit d == code ".") ≡ false
no_mark d small = grind (arith, nat_tests)

by_parts : (is_mark : Bool) (high low byte : ℕ) → is_mark ≡ false → high * 16 + low ≡ byte → (if is_mark then 0 else high * 16 + low) ≡ byte
by_parts is_mark high low byte none is = rw none is

digits_read : (byte : ℕ) → byte < 256 → byte_of (digit (byte / 16 % 16)) (digit (byte % 16)) ≡ byte
digits_read byte small =
    let high : ℕ = byte / 16 % 16 in
    let low : ℕ = byte % 16 in
    let whole : high * 16 + low ≡ byte = omega arith in
    by_parts (digit high == code ".") (number_of (digit high)) (number_of (digit low)) byte (no_mark high (omega arith))
    (ap₂ (λ x y. x * 16 + y) (digit_number high (omega arith)) (digit_number low (omega arith)) ∙ whole)

byte_read : (byte : ℕ) (rest : List ℕ) → byte < 256 → read (hexadecimal 2 byte ++ rest) ≡ byte ∷ read rest
unfolding digits
byte_read byte rest small = ap (λ b. b ∷ read rest) (digits_read byte small)

bytes_read : (bytes rest : List ℕ) → AreBytes bytes → read (bytes_text bytes ++ rest) ≡ bytes ++ read rest
bytes_read [] rest small = refl
bytes_read (byte ∷ bytes) rest small =
    ap read (append_assoc (hexadecimal 2 byte) (bytes_text bytes) rest) ∙ byte_read byte (bytes_text bytes ++ rest) small.0
    ∙ ap (λ l. byte ∷ l) (bytes_read bytes rest small.1)

-- the first of equal lists, and the rest
abbrev first_of : List ℕ → ℕ
first_of [] = 0
first_of (byte ∷ bytes) = byte

abbrev rest_of : List ℕ → List ℕ
rest_of [] = []
rest_of (byte ∷ bytes) = bytes

star_read : (b : Bool) → read (if b then code "*" ∷ [] else []) ≡ []
star_read true = refl
star_read false = refl

-- what stands behind the places, where what follows is cut off, is nothing
cut_read : (bytes : List ℕ) → [] ≡ bytes → read (text_behind true bytes) ≡ bytes
cut_read [] is = refl
cut_read (byte ∷ bytes) is = absurd (cc is)

whole_read : (bytes : List ℕ) → AreBytes bytes → read (text_behind false bytes) ≡ bytes
whole_read bytes small = bytes_read bytes [] small ∙ append-nil bytes

place_read : (is_masked : Bool) (byte : ℕ) (rest : List ℕ) → byte < 256 → (if is_masked then 0 else byte) ≡ byte
    → read (place_text is_masked byte ++ rest) ≡ byte ∷ read rest
place_read true byte rest small none = ap (λ b. b ∷ read rest) none
place_read false byte rest small same = byte_read byte rest small

-- bytes that are masked already are read back
places_read : (places : List Bool) (cuts : Bool) (bytes : List ℕ) → AreBytes bytes
    → masked_bytes places (if cuts then take (length places) bytes else bytes) ≡ bytes → read (places_text places cuts bytes) ≡ bytes
places_read [] true bytes small is = cut_read bytes is
places_read [] false bytes small is = whole_read bytes small
places_read (is_masked ∷ places) cuts [] small is = refl
places_read (is_masked ∷ places) true (byte ∷ bytes) small is =
    place_read is_masked byte (places_text places true bytes) small.0 (ap first_of is)
    ∙ ap (λ l. byte ∷ l) (places_read places true bytes small.1 (ap rest_of is))
places_read (is_masked ∷ places) false (byte ∷ bytes) small is =
    place_read is_masked byte (places_text places false bytes) small.0 (ap first_of is)
    ∙ ap (λ l. byte ∷ l) (places_read places false bytes small.1 (ap rest_of is))

-- parts of bytes are bytes
bytes_parts : (count : ℕ) (bytes : List ℕ) → AreBytes bytes → AreBytes (take count bytes) × AreBytes (drop count bytes)
bytes_parts zero bytes small = (tt, small)
bytes_parts (suc count) [] small = (tt, tt)
bytes_parts (suc count) (byte ∷ bytes) small =
    let parts = bytes_parts count bytes small.1 in
    ((small.0, parts.0), parts.1)

-- a message of which a mask makes the message itself is read back
masked_read : (mask : MaskValue) (prefix message : List ℕ) → AreBytes message → prefix ++ masked mask (drop (length prefix) message) ≡ message
    → read (text_by (Some (mask, length prefix)) message) ≡ message
masked_read mask prefix message small is =
    let behind : List ℕ = drop (length prefix) message in
    let stays : masked mask behind ≡ behind = sym (drop-append_seam prefix (masked mask behind)) ∙ ap (drop (length prefix)) is in
    let parts = bytes_parts (length prefix) message small in
    bytes_read (take (length prefix) message) (masked_text mask behind) parts.0
    ∙ ap (λ l. take (length prefix) message ++ l) (places_read mask.places mask.cuts behind parts.1 stays)
    ∙ take-append-drop (length prefix) message

made_read : (this : Deed) (prefix message : List ℕ) → AreBytes message → made_by this prefix message ≡ Some message
    → read (text_by (mask_by this prefix) message) ≡ message
made_read deed.Drop prefix message small is = absurd (none-some _ is)
made_read (deed.Mask mask) prefix message small is = masked_read mask prefix message small (same_Some _ _ is)

ruled_read : (rules : List RuleValue) (message : List ℕ) → AreBytes message → made_of rules message ≡ Some message
    → read (ruled_text rules message) ≡ message
ruled_read [] message small is = ap read (sym (append-nil (bytes_text message))) ∙ bytes_read message [] small ∙ append-nil message
ruled_read (rule ∷ rules) message small is =
    elim (cases_Bool (speaks_of rule message)) [
      | inl speaks ↦ rw speaks (made_read rule.deed rule.prefix message small (rw speaks at is))
      | inr silent ↦ rw silent (ruled_read rules message small (rw silent at is))
    ]

pub ruled_same : (rules : List RuleValue) (one other : List ℕ) → IsLeft rules one → IsLeft rules other
    → ruled_text rules one ≡ ruled_text rules other → one ≡ other
ruled_same rules one other left kept is =
    sym (ruled_read rules one left.0 left.1) ∙ ap read is ∙ ruled_read rules other kept.0 kept.1

-- ---- the laws

pub equal_messages_have_equal_texts : EqualMessagesHaveEqualTexts
equal_messages_have_equal_texts rules one other left kept = (ap (ruled_text rules), ruled_same rules one other left kept)

pub no_rules_mark_nothing : NoRulesMarkNothing
no_rules_mark_nothing message = refl

-- no mask is that of a message which no rule speaks of
no_mask : (rules : List RuleValue) (message : List ℕ) → is_spoken_of rules message ≡ false → mask_of rules message ≡ None
no_mask [] message silent = refl
no_mask (rule ∷ rules) message silent =
    elim (cases_Bool (speaks_of rule message)) [
      | inl speaks ↦ absurd (false≢true (sym (rw speaks at silent)))
      | inr other ↦ rw other (no_mask rules message (rw other at silent))
    ]

pub unspoken_is_not_marked : UnspokenIsNotMarked
unspoken_is_not_marked rules message silent = ap (λ found. text_by found message) (no_mask rules message silent)
