-- The time of a canonical line: as sixteen digits of which two give way to marks, and counted up by one.
use Prim.Native.Char.{code}
use Prim.Native.Nat.{zero, suc}
use Rattle.std.proofs.Common.{◌≡◌, ◌≢◌, ℕ, ◌+◌, ◌*◌, ◌/◌, ◌%◌, ◌^◌, ◌<◌, List, [], ◌∷◌, ◌++◌, length, length-append, take, get_or, set, append_assoc, refl, ap, sym, ◌∙◌, arith}
use Rattle.std.specs.Prelude.{codes}
use Rattle.std.proofs.Math.Nat.{pow-suc, pow-zero}
use Rattle.std.proofs.Math.Seq.{get_or-append_seam, set-append_seam}
use Rattle.std.proofs.lemmas.Bool.Decides.{nat_tests}
use Rattle.std.specs.List.{AllByRecursion}
use Rattle.std.proofs.lemmas.List.{take_all}
use Rattle.std.proofs.lemmas.Simd.{put_chunk_whole}
use lib.Lanes.{zip2, put_chunk}
use lib.ListN.{replicate}
use Rattle.can_log.specs.Canonical.{canonical_front, canonical_stamp}
use Rattle.can_log.specs.Digits.{digit, digits, decimal}
use Rattle.can_log.proofs.Digits.{length-digits, each_digit}
use Rattle.can_log.proofs.EachElement.{AllByRecursion-append}

-- a zero stands in front of fewer digits
zero_first : (width number : ℕ) → number < 10 ^ width → digits 10 (suc width) number ≡ code "0" ∷ digits 10 width number
unfolding digits
zero_first zero number small =
    let none : number ≡ 0 = omega (arith, rw pow-zero at small) in
    rw none refl
zero_first (suc width) number small =
    let below : number < 10 ^ width * 10 = rw pow-suc at small in
    rw (zero_first width (number / 10) (omega arith)) refl

-- the last three digits are those of what is left over of thousands
last_three : (width thousands rest : ℕ) → rest < 1000 → digits 10 (suc (suc (suc width))) (thousands * 1000 + rest) ≡ digits 10 width thousands ++ decimal 3 rest
unfolding digits
last_three width thousands rest small =
    let front : (thousands * 1000 + rest) / 10 / 10 / 10 ≡ thousands = omega arith in
    let hundreds : (thousands * 1000 + rest) / 10 / 10 % 10 ≡ rest / 10 / 10 % 10 = omega arith in
    let tens : (thousands * 1000 + rest) / 10 % 10 ≡ rest / 10 % 10 = omega arith in
    let ones : (thousands * 1000 + rest) % 10 ≡ rest % 10 = omega arith in
    rw (front, hundreds, tens, ones) (simp append_assoc)

-- the digits of a number, and then a zero, are those of ten times the number
zero_last : (width number : ℕ) → digits 10 (suc width) (number * 10) ≡ digits 10 width number ++ code "0" ∷ []
unfolding digits
zero_last width number =
    let front : number * 10 / 10 ≡ number = omega arith in
    let last : number * 10 % 10 ≡ 0 = omega arith in
    rw (front, last) refl

-- the number that has the digits of the time, and zeros around them
time_digits : (n : ℕ) → n < 10 ^ 13
    → decimal 16 (n / 1000 * 100000 + n % 1000 * 10) ≡ code "0" ∷ (decimal 10 (n / 1000) ++ (code "0" ∷ (decimal 3 (n % 1000) ++ code "0" ∷ [])))
time_digits n small =
    let tenths : n / 1000 * 100000 + n % 1000 * 10 ≡ (n / 1000 * 10 * 1000 + n % 1000) * 10 = omega arith in
    ap (digits 10 16) tenths ∙ zero_last 15 (n / 1000 * 10 * 1000 + n % 1000)
    ∙ ap (λ l. l ++ code "0" ∷ []) (last_three 12 (n / 1000 * 10) (n % 1000) (omega arith) ∙ ap (λ l. l ++ decimal 3 (n % 1000)) (zero_last 11 (n / 1000) ∙ ap (λ l. l ++ code "0" ∷ []) (zero_first 10 (n / 1000) (omega arith))))
    ∙ simp append_assoc

-- two marks in place of zeros make it the time
pub time_marked : (n : ℕ) (digits : List ℕ) → n < 10 ^ 13 → digits ≡ decimal 16 (n / 1000 * 100000 + n % 1000 * 10)
    → set (set digits 0 (code "(")) 11 (code ".") ≡ canonical_stamp n
unfolding canonical_stamp
time_marked n digits small is =
    let seconds = decimal 10 (n / 1000) in
    let back = decimal 3 (n % 1000) ++ code "0" ∷ [] in
    let seam = set-append_seam (code "(" ∷ seconds) (code "0") back (code ".") in
    let long : length seconds ≡ 10 = length-digits 10 10 (n / 1000) in
    let marked = rw long at seam in
    ap (λ (d : List ℕ). set (set d 0 (code "(")) 11 (code ".")) (is ∙ time_digits n small) ∙ (marked ∙ simp append_assoc)

-- the bytes before the identifier are the time, and what is the same in each line
pub front_marked : (n : ℕ) (stamp marked : List ℕ) → stamp ≡ canonical_stamp n → marked ≡ stamp → marked ++ codes "00) can0 " ≡ canonical_front n
unfolding canonical_front canonical_stamp
front_marked n stamp marked is copied = rw (copied, is) (simp append_assoc)

-- ---- counted up

-- what stands before the last digit of the milliseconds
abbrev until_last : ℕ → List ℕ
until_last n = codes "(" ++ decimal 10 (n / 1000) ++ codes "." ++ decimal 2 (n % 1000 / 10)

length-until_last : (n : ℕ) → length (until_last n) ≡ 14
length-until_last n =
    let seconds = length-digits 10 10 (n / 1000) in
    let millis = length-digits 10 2 (n % 1000 / 10) in
    simp length-append (omega arith)

length-stamp : (n : ℕ) → length (canonical_stamp n) ≡ 16
unfolding canonical_stamp
length-stamp n =
    let seconds = length-digits 10 10 (n / 1000) in
    let millis = length-digits 10 3 (n % 1000) in
    simp length-append (omega arith)

-- that digit between what stands before and after it
last_digit : (n : ℕ) → canonical_stamp n ≡ until_last n ++ digit (n % 10) ∷ codes "0"
unfolding canonical_stamp digits
last_digit n =
    let last : n % 1000 % 10 ≡ n % 10 = omega arith in
    rw last (simp append_assoc)

-- where it is no 9, it alone is another one millisecond later
until_last_stays : (n : ℕ) → n % 10 < 9 → until_last (n + 1) ≡ until_last n
until_last_stays n below =
    let seconds : (n + 1) / 1000 ≡ n / 1000 = omega arith in
    let millis : (n + 1) % 1000 / 10 ≡ n % 1000 / 10 = omega arith in
    rw (seconds, millis) refl

digit_counted : (n : ℕ) → n % 10 < 9 → digit ((n + 1) % 10) ≡ digit (n % 10) + 1
digit_counted n below =
    let next : (n + 1) % 10 ≡ n % 10 + 1 = omega arith in
    rw next (grind (arith, nat_tests))

no_nine : (n : ℕ) → digit (n % 10) ≢ code "9" → n % 10 < 9
no_nine n other = grind (arith, nat_tests)

digit_below_nine : (n : ℕ) → n % 10 < 9 → digit (n % 10) < code "9"
digit_below_nine n below = grind (arith, nat_tests)

abbrev IsByte : ℕ → Type 0
IsByte b = b < 256

digit_is_byte : (d : ℕ) → d < 10 → IsByte (digit d)
digit_is_byte d small = grind (arith, nat_tests)

are_bytes : (n : ℕ) → AllByRecursion IsByte (until_last n)
are_bytes n =
    let digits = each_digit IsByte 10 (omega arith) digit_is_byte in
    let seconds = AllByRecursion-append IsByte (codes "(") (decimal 10 (n / 1000)) (omega arith, tt) (digits 10 (n / 1000)) in
    let point = AllByRecursion-append IsByte (codes "(" ++ decimal 10 (n / 1000)) (codes ".") seconds (omega arith, tt) in
    AllByRecursion-append IsByte (codes "(" ++ decimal 10 (n / 1000) ++ codes ".") (decimal 2 (n % 1000 / 10)) point (digits 2 (n % 1000 / 10))

-- bytes to which zeros are added, lane by lane, stay as they are
zeros_added : (f : ℕ → ℕ → ℕ) → ((a b : ℕ) → f a b ≡ (a + b) % 256) → (xs ys zs : List ℕ) → AllByRecursion IsByte xs
    → zip2 f (xs ++ ys) (replicate (length xs) 0 ++ zs) ≡ xs ++ zip2 f ys zs
zeros_added f sum [] ys zs bytes = refl
zeros_added f sum (x ∷ xs) ys zs bytes =
    let byte = bytes.0 in
    let same : f x 0 ≡ x = sum x 0 ∙ omega arith in
    (λ i. same i ∷ zeros_added f sum xs ys zs bytes.1 i)

-- the stamp one millisecond later: one is added to the last digit of the milliseconds, and zero to the other bytes, and all
-- sixteen are put in their place
pub stamp_counted : (f : ℕ → ℕ → ℕ) → ((a b : ℕ) → f a b ≡ (a + b) % 256) → (n : ℕ) (stamp : List ℕ) → stamp ≡ canonical_stamp n → get_or stamp 14 0 ≢ code "9"
    → put_chunk 0 stamp (zip2 f (take 16 stamp) (replicate 14 0 ++ 1 ∷ 0 ∷ [])) ≡ canonical_stamp (n + 1)
stamp_counted f sum n stamp is other =
    let before = until_last n in
    let behind = codes "0" in
    let last = digit (n % 10) in
    let long = sym (length-until_last n) in
    let text : stamp ≡ before ++ last ∷ behind = is ∙ last_digit n in
    let there : get_or stamp 14 0 ≡ last =
    ap (λ f. get_or f 14 0) text ∙ ap (λ k. get_or (before ++ last ∷ behind) k 0) long ∙ get_or-append_seam before last behind 0 in
    let below = no_nine n (λ nine. other (there ∙ nine)) in
    let small = digit_below_nine n below in
    let one_more : f last 1 ≡ last + 1 = sum last 1 ∙ omega (arith, small) in
    let zero_stays : f (code "0") 0 ≡ code "0" = sum (code "0") 0 in
    let lanes = zip2 f (take 16 stamp) (replicate 14 0 ++ 1 ∷ 0 ∷ []) in
    let whole : take 16 stamp ≡ stamp = take_all 16 stamp (omega (arith, ap length is, length-stamp n)) in
    let added : lanes ≡ before ++ (f last 1 ∷ f (code "0") 0 ∷ []) =
    ap (λ bytes. zip2 f bytes (replicate 14 0 ++ 1 ∷ 0 ∷ [])) whole ∙ (λ i. zip2 f (text i) (replicate (long i) 0 ++ 1 ∷ 0 ∷ [])) ∙ zeros_added f sum before (last ∷ behind) (1 ∷ 0 ∷ []) (are_bytes n) in
    let later : canonical_stamp (n + 1) ≡ before ++ (last + 1) ∷ behind =
    last_digit (n + 1) ∙ (λ i. until_last_stays n below i ++ digit_counted n below i ∷ behind) in
    let counted : lanes ≡ canonical_stamp (n + 1) = added ∙ (λ i. before ++ (one_more i ∷ zero_stays i ∷ [])) ∙ sym later in
    let as_long : length stamp ≡ length lanes = ap length is ∙ length-stamp n ∙ sym (ap length counted ∙ length-stamp (n + 1)) in
    put_chunk_whole stamp lanes as_long ∙ counted
