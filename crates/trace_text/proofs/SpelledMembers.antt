-- The words of members, and how each notation spells them: equal texts have equal words.
use Rattle.std.proofs.Common.{◌≡◌, ◌⊎◌, inl, inr, ℕ, ◌+◌, ◌<◌, List, [], ◌∷◌, ◌++◌, arith, refl, ap, ap₂, sym, ◌∙◌, append_assoc, codes, get_or}
use Rattle.std.specs.Prelude.{⊤, ◌==◌, if◌then◌else◌}
use Rattle.trace_text.specs.declared.notation.Notation.{Notation}
use Rattle.trace_text.specs.declared.notation.Notation.TheVariants.{Text, Json}
use Rattle.trace_text.specs.Json.{Value, string, object, Members, nothing, member}
use Rattle.trace_text.specs.Json as json
use Rattle.trace_text.proofs.TextWords.{IsWord, name_word, first_of, strip, cut}

abbrev pub word_of : Value → List ℕ
word_of (string word) = word
word_of json.null = []
word_of (json.truth b) = []
word_of (json.number n) = []
word_of (json.below_zero n) = []
word_of (json.pair one two) = []
word_of (object members) = []

abbrev pub words_of : Members → List (List ℕ)
words_of nothing = []
words_of (member key value later) = word_of value ∷ words_of later

-- the key of an answer behind the mark that it is other than was asked: so this mark is in no word of an item
abbrev pub marked_key : List ℕ
marked_key = codes "echo\":false,\"answer"

-- a key is a word, or that one
abbrev pub IsKey : List ℕ → Type 0
IsKey key = IsWord key ⊎ (key ≡ marked_key)

-- keys are such ones, and values are words
abbrev pub AreWorded : Members → Type 0
AreWorded nothing = ⊤
AreWorded (member key value later) = IsKey key × (IsWord (word_of value) × ((value ≡ string (word_of value)) × AreWorded later))

-- what stands before the member of this number
abbrev pub opening : Notation → ℕ → List ℕ
opening Text n = codes " " ++ (if n == 3 then codes "-> " else [])
opening Json n = codes "\",\""

abbrev pub key_text : Notation → List ℕ → List ℕ
key_text Text key = []
key_text Json key = key ++ codes "\":\""

abbrev pub ending : Notation → List ℕ
ending Text = codes "\n"
ending Json = codes "\"}\n"

abbrev pub spelled : Notation → ℕ → Members → List ℕ → List ℕ
spelled notation n nothing rest = ending notation ++ rest
spelled notation n (member key value later) rest = opening notation n
    ++ (key_text notation key ++ (word_of value ++ spelled notation (n + 1) later rest))

-- so a word ends where a letter does not follow
ends_low : (notation : Notation) (n : ℕ) (members : Members) (rest : List ℕ) → first_of (spelled notation n members rest) < 42
ends_low Text n nothing rest = omega arith
ends_low Text n (member key value later) rest = omega arith
ends_low Json n nothing rest = omega arith
ends_low Json n (member key value later) rest = omega arith

-- no word is followed as the key with the mark is
other_key : (key x y : List ℕ) → IsWord key → key_text Json key ++ x ≡ key_text Json marked_key ++ y → ⊥
other_key key x y word is =
    let parts = cut key (codes "echo") (codes "\":\"" ++ x) (codes "\":false,\"answer\":\"" ++ y) word (name_word (codes "echo") refl)
    (omega arith) (omega arith)
    (sym (append_assoc key (codes "\":\"") x) ∙ is) in
    let differ : 34 ≡ 102 = ap (λ l. get_or l 2 0) parts.1 in
    absurd (omega (arith, differ))

key_same : (notation : Notation) (key other x y : List ℕ) → IsKey key → IsKey other → key_text notation key ++ x ≡ key_text notation other ++ y
    → x ≡ y
key_same Text key other x y word too is = is
key_same Json key other x y (inl word) (inr too) is = absurd (other_key key x y word (is ∙ ap (λ k. key_text Json k ++ y) too))
key_same Json key other x y (inr word) (inl too) is = absurd (other_key other y x too (sym is ∙ ap (λ k. key_text Json k ++ x) word))
key_same Json key other x y (inr word) (inr too) is =
    strip (key_text Json marked_key) x y (sym (ap (λ k. key_text Json k ++ x) word) ∙ is ∙ ap (λ k. key_text Json k ++ y) too)
key_same Json key other x y (inl word) (inl too) is =
    let parts = cut key other (codes "\":\"" ++ x) (codes "\":\"" ++ y) word too (omega arith) (omega arith)
    (sym (append_assoc key (codes "\":\"") x) ∙ is ∙ append_assoc other (codes "\":\"") y) in
    strip (codes "\":\"") x y parts.1

ends_or_goes_on : (notation : Notation) (n : ℕ) (x y : List ℕ) → ending notation ++ x ≡ opening notation n ++ y → ⊥
ends_or_goes_on Text n x y is =
    let differ : 10 ≡ 32 = ap (λ l. get_or l 0 0) is in
    absurd (omega (arith, differ))
ends_or_goes_on Json n x y is =
    let differ : 125 ≡ 44 = ap (λ l. get_or l 1 0) is in
    absurd (omega (arith, differ))

-- and equal texts have equal words
pub words_same : (notation : Notation) (n : ℕ) (one other : Members) (x y : List ℕ) → AreWorded one → AreWorded other
    → spelled notation n one x ≡ spelled notation n other y → (words_of one ≡ words_of other) × (x ≡ y)
words_same notation n nothing nothing x y word too is = (refl, strip (ending notation) x y is)
words_same notation n nothing (member key value later) x y word too is = absurd (ends_or_goes_on notation n x _ is)
words_same notation n (member key value later) nothing x y word too is = absurd (ends_or_goes_on notation n y _ (sym is))
words_same notation n (member key value later) (member other second further) x y word too is =
    let named = key_same notation key other _ _ word.0 too.0 (strip (opening notation n) _ _ is) in
    let parts = cut (word_of value) (word_of second) _ _ word.1.0 too.1.0 (ends_low notation (n + 1) later x)
    (ends_low notation (n + 1) further y) named in
    let rest = words_same notation (n + 1) later further x y word.1.1.1 too.1.1.1 parts.1 in
    (ap₂ (λ w ws. w ∷ ws) parts.0 rest.0, rest.1)
