-- Words in a text, and what stands between them: bytes in digits, and the names of services and response codes.
use Rattle.std.proofs.Common.{◌≡◌, ℕ, ◌/◌, ◌%◌, ◌<◌, ◌≤◌, Bool, true, false, List, [], ◌∷◌, ◌++◌, arith, refl, ap, ap₂, codes, Option, Some, option_map, unwrap_or}
use Rattle.std.specs.Prelude.{nat_le, ◌==◌, ◌&&◌, not, if◌then◌else◌}
use Rattle.std.specs.List.{AllByRecursion, list_all}
use Rattle.std.proofs.lemmas.Bool.{and_parts}
use Rattle.std.proofs.lemmas.Bool.Decides.{nat_tests}
use Rattle.can_log.specs.Digits.{digit, digits, hexadecimal}
use Rattle.can_log.specs.Frame.{AreBytes}
use Rattle.can_log.proofs.Promises.{AllByRecursion-append, AllByRecursion-tested}
use Rattle.uds_message.specs.Tables.{Service, Code, services, service_row_in, response_codes, code_name_in}
use Rattle.trace_text.specs.Words.{bytes_text, service_text, code_text}

-- ---- words

-- no byte of a word is below `*`, nor a backslash: so no quote is in it, and nothing that a string of JSON escapes
abbrev pub is_in_word : ℕ → Bool
is_in_word b = nat_le 42 b && not (b == 92)

-- a text of such bytes
abbrev pub IsWord : List ℕ → Type 0
IsWord bytes = AllByRecursion (λ b. is_in_word b ≡ true) bytes

high_in_word : (b : ℕ) → is_in_word b ≡ true → 42 ≤ b
high_in_word b is = grind (arith, nat_tests)

-- the first byte of a text; 0 where it has none
abbrev pub first_of : List ℕ → ℕ
first_of [] = 0
first_of (b ∷ rest) = b

-- the bytes behind it
abbrev pub rest_of : List ℕ → List ℕ
rest_of [] = []
rest_of (b ∷ rest) = rest

-- what stands after equal fronts is equal
pub strip : (front one other : List ℕ) → front ++ one ≡ front ++ other → one ≡ other
strip [] one other is = is
strip (b ∷ front) one other is = strip front one other (ap rest_of is)

-- and so is what stands before it, where words end at a lower byte
pub cut : (a b one other : List ℕ) → IsWord a → IsWord b → first_of one < 42 → first_of other < 42 → a ++ one ≡ b ++ other → (a ≡ b) × (one ≡ other)
cut [] [] one other wa wb low under is = (refl, is)
cut [] (d ∷ b) one other wa wb low under is =
    let same : first_of one ≡ d = ap first_of is in
    let high = high_in_word d wb.0 in
    absurd (omega arith)
cut (c ∷ a) [] one other wa wb low under is =
    let same : c ≡ first_of other = ap first_of is in
    let high = high_in_word c wa.0 in
    absurd (omega arith)
cut (c ∷ a) (d ∷ b) one other wa wb low under is =
    let rest = cut a b one other wa.1 wb.1 low under (ap rest_of is) in
    let same : c ≡ d = ap first_of is in
    (ap₂ (λ h t. h ∷ t) same rest.0, rest.1)

-- a hexadecimal digit is such a byte
pub digit_in_word : (d : ℕ) → d < 16 → is_in_word (digit d) ≡ true
digit_in_word d small = grind (arith, nat_tests)

-- two numbers of one digit are one
digit_same : (m n : ℕ) → m < 16 → n < 16 → digit m ≡ digit n → m ≡ n
digit_same m n small few is = grind (arith, nat_tests)

-- the two digits of a byte are a word
pub pair_word : (b : ℕ) → IsWord (hexadecimal 2 b)
unfolding digits
pair_word b = (digit_in_word (b / 16 % 16) (omega arith), (digit_in_word (b % 16) (omega arith), tt))

-- the digits of bytes are a word
pub bytes_word : (bytes : List ℕ) → IsWord (bytes_text bytes)
bytes_word [] = tt
bytes_word (b ∷ bytes) = AllByRecursion-append (λ d. is_in_word d ≡ true) (hexadecimal 2 b) (bytes_text bytes) (pair_word b) (bytes_word bytes)

-- and they are those of no other bytes
pub bytes_same : (one other : List ℕ) → AreBytes one → AreBytes other → bytes_text one ≡ bytes_text other → one ≡ other
unfolding digits
bytes_same [] [] small few is = refl
bytes_same [] (c ∷ other) small few is = absurd (cc is)
bytes_same (b ∷ one) [] small few is = absurd (cc is)
bytes_same (b ∷ one) (c ∷ other) small few is =
    let high = digit_same (b / 16 % 16) (c / 16 % 16) (omega arith) (omega arith) (ap first_of is) in
    let low = digit_same (b % 16) (c % 16) (omega arith) (omega arith) (ap (λ l. first_of (rest_of l)) is) in
    let rest = bytes_same one other small.1 few.1 (ap (λ l. rest_of (rest_of l)) is) in
    let below : b < 256 = small.0 in
    let under : c < 256 = few.0 in
    let same : b ≡ c = omega arith in
    ap₂ (λ h t. h ∷ t) same rest

-- a name whose bytes pass the test is a word
pub name_word : (name : List ℕ) → list_all is_in_word name ≡ true → IsWord name
name_word name tested = AllByRecursion-tested is_in_word name tested

service_first : (b : Bool) (row : Service) (found : Option Service) (other : List ℕ) → IsWord row.name
    → IsWord (unwrap_or (option_map (λ r. r.name) found) other)
    → IsWord (unwrap_or (option_map (λ r. r.name) (if b then Some row else found)) other)
service_first true row found other word rest = word
service_first false row found other word rest = rest

service_in : (rows : List Service) → list_all (λ (row : Service). list_all is_in_word row.name) rows ≡ true → (service : ℕ) (other : List ℕ)
    → IsWord other
    → IsWord (unwrap_or (option_map (λ row. row.name) (service_row_in rows service)) other)
service_in [] all service other word = word
service_in (row ∷ rows) all service other word =
    let parts = and_parts (list_all is_in_word row.name) (list_all (λ (r : Service). list_all is_in_word r.name) rows) all in
    service_first (service == row.sid) row (service_row_in rows service) other (name_word row.name parts.0)
    (service_in rows parts.1 service other word)

code_first : (b : Bool) (name : List ℕ) (found : Option (List ℕ)) (other : List ℕ) → IsWord name → IsWord (unwrap_or found other)
    → IsWord (unwrap_or (if b then Some name else found) other)
code_first true name found other word rest = word
code_first false name found other word rest = rest

code_in : (rows : List Code) → list_all (λ (row : Code). list_all is_in_word row.name) rows ≡ true → (code : ℕ) (other : List ℕ) → IsWord other
    → IsWord (unwrap_or (code_name_in rows code) other)
code_in [] all code other word = word
code_in (row ∷ rows) all code other word =
    let parts = and_parts (list_all is_in_word row.name) (list_all (λ (r : Code). list_all is_in_word r.name) rows) all in
    code_first (code == row.code) row.name (code_name_in rows code) other (name_word row.name parts.0) (code_in rows parts.1 code other word)

-- the names of services are words
pub service_word : (service : ℕ) → IsWord (service_text service)
unfolding service_text
service_word service =
    service_in services refl service (codes "service_" ++ hexadecimal 2 service)
    (AllByRecursion-append (λ d. is_in_word d ≡ true) (codes "service_") (hexadecimal 2 service) (name_word (codes "service_") refl)
    (pair_word service))

-- and so are those of response codes
pub code_word : (code : ℕ) → IsWord (code_text code)
unfolding code_text
code_word code =
    code_in response_codes refl code (codes "code_" ++ hexadecimal 2 code)
    (AllByRecursion-append (λ d. is_in_word d ≡ true) (codes "code_") (hexadecimal 2 code) (name_word (codes "code_") refl) (pair_word code))
