-- From a mask of the bytes that are no hexadecimal digits to the digits at the front of a list, and behind some of its bytes.
use Prim.Native.Nat.{zero, suc}
use Rattle.std.proofs.Common.{[], ◌∷◌, drop, length-drop, subst, ◌-◌, ◌≡◌, ℕ, ◌+◌, ◌*◌, ◌/◌, ◌%◌, ◌^◌, ◌<◌, ◌≤◌, ◌++◌, Bool, true, false, not, List, map, length, get_or, take, Fits, w8, sym, ap, refl, append_assoc, ◌∙◌, arith}
use Rattle.std.proofs.lemmas.Bool.{agree_below, agree_below_at}
use Rattle.std.proofs.lemmas.Simd.{map-map, mask_l-mod, mask_l-lt, length-chunk, chunk-fits, first_set_mask_l, trailing_mask_l, run_in_chunk_le, run_in_chunk_fails}
use Rattle.std.proofs.lemmas.List.{length-map, length-append, length-take, take-append-drop, length-take-le, get_or-take, drop-map, drop-take, map-append}
use Rattle.std.proofs.Math.Nat.{mul_assoc, mul_comm, pow-succ'}
use Rattle.std.proofs.lemmas.Nat.{shr_high}
use Rattle.std.proofs.lemmas.List.Elements.{All-from_get_or, recursion_from_All}
use Rattle.std.proofs.Math.Seq.{take-add, take-length, drop-append_seam}
use Rattle.std.specs.Char.{is_ascii_hexdigit}
use Rattle.std.specs.Int.{trailing_zeros, w64}
use Rattle.std.specs.List.{prefix_len}
use lib.Count.{count_trailing_zeros}
use lib.Lanes.{Each1, chunk, mask_l, top}
use Rattle.can_log.specs.declared.lanes.Told.{Told}
use Rattle.can_log.specs.proving.Plain.{IsFrontOf, Tells, first_set, others_in}

-- the bytes of another kind
abbrev is_other : ℕ → Bool
is_other b = not (is_ascii_hexdigit b)

maps_agree : (p q : ℕ → Bool) (v : List ℕ) → Each1 (Fits w8) v → agree_below p q 256 ≡ true → map p v ≡ map q v
maps_agree p q [] each all = refl
maps_agree p q (x ∷ v) each all = λ i. agree_below_at p q 256 x all (each.0).fits i ∷ maps_agree p q v each.1 all i

-- ---- the mask of one load

pub mask_made : (bytes z : List ℕ) → 16 ≤ length bytes → ((k : ℕ) → Fits w8 (get_or bytes k 0)) → (f : ℕ → ℕ) → z ≡ map f (chunk 0 16 bytes)
    → agree_below (λ x. top 7 (f x)) is_other 256 ≡ true
    → mask_l (map (top 7) z) % 2 ^ 64 ≡ others_in 16 bytes
mask_made bytes z room fits f lanes all =
    let stops : ℕ → Bool = λ x. top 7 (f x) in
    let v = chunk 0 16 bytes in
    let long : length v ≡ 16 = length-chunk 0 16 bytes room in
    ap (λ (l : List Bool). mask_l l % 2 ^ 64) (ap (map (top 7)) lanes ∙ map-map (top 7) f v)
    ∙ mask_l-mod (map stops v) 64 (omega (arith, length-map v stops, long))
    ∙ ap mask_l (maps_agree stops is_other v (chunk-fits w8 0 16 bytes fits) all)

pub mask_small : (bytes : List ℕ) → 16 ≤ length bytes → others_in 16 bytes < 65536
mask_small bytes room =
    let long : length (map is_other (take 16 bytes)) ≡ 16 = length-map (take 16 bytes) is_other ∙ length-take-le 16 bytes room in
    subst (λ (n : ℕ). others_in 16 bytes < 2 ^ n) long (mask_l-lt (map is_other (take 16 bytes)))

-- ---- two loads

joined : (front back : List Bool) → mask_l (front ++ back) ≡ mask_l front + 2 ^ length front * mask_l back
joined [] back = omega arith
joined (b ∷ front) back =
    let behind = joined front back in
    let twice : 2 ^ suc (length front) * mask_l back ≡ 2 * (2 ^ length front * mask_l back) = ap (λ (n : ℕ). n * mask_l back) (pow-succ' 2 (length front)) ∙ mul_assoc 2 (2 ^ length front) (mask_l back) in
    omega (arith, behind, twice)

others_joined : (bytes : List ℕ) → 32 ≤ length bytes → others_in 32 bytes ≡ others_in 16 bytes + 65536 * others_in 16 (drop 16 bytes)
others_joined bytes room =
    let front = map is_other (take 16 bytes) in
    let back = map is_other (take 16 (drop 16 bytes)) in
    let long : length front ≡ 16 = length-map (take 16 bytes) is_other ∙ length-take-le 16 bytes (omega arith) in
    ap (λ (z : List ℕ). mask_l (map is_other z)) (take-add 16 16 bytes)
    ∙ ap mask_l (map-append is_other (take 16 bytes) (take 16 (drop 16 bytes)))
    ∙ joined front back
    ∙ ap (λ (n : ℕ). mask_l front + 2 ^ n * mask_l back) long

pub mask_of_both : (bytes behind : List ℕ) (first second : ℕ) → 32 ≤ length bytes → first ≡ others_in 16 bytes
    → behind ≡ take (length bytes - 16) (drop 16 bytes) → second ≡ others_in 16 behind → first + 65536 * second ≡ others_in 32 bytes
mask_of_both bytes behind first second room one is two =
    let whole : behind ≡ drop 16 bytes = is ∙ rw (← length-drop 16 bytes) (take-length (drop 16 bytes)) in
    (λ i. one i + 65536 * (two ∙ ap (others_in 16) whole) i) ∙ sym (others_joined bytes room)

-- ---- the digits at the front

not_false : (b : Bool) → not b ≡ false → b ≡ true
not_false true is = refl
not_false false is = absurd (cc is)

run_from_prefix : (bytes : List ℕ) (n r : ℕ) → n ≤ length bytes → r ≡ prefix_len (λ x. not (is_other x)) (chunk 0 n bytes) → r ≤ 16 → IsFrontOf is_ascii_hexdigit r bytes
run_from_prefix bytes n r room counted few =
    let reached : r ≤ n = run_in_chunk_le is_other bytes 0 n r 0 (omega (arith, room)) counted in
    let passes : (k : ℕ) → k < length (take r bytes) → is_ascii_hexdigit (get_or (take r bytes) k 0) ≡ true =
    λ k lt.
    let below : k < r = omega (arith, length-take r bytes) in
    let fails = run_in_chunk_fails is_other bytes 0 n r 0 (omega (arith, room)) counted k (omega arith) (omega arith) in
    ap is_ascii_hexdigit (get_or-take r bytes k 0 below) ∙ is_digit (get_or bytes k 0) fails
    in (
      few,
      record {
        each = recursion_from_All (λ b. is_ascii_hexdigit b ≡ true) (take r bytes) (All-from_get_or (λ b. is_ascii_hexdigit b ≡ true) (take r bytes) 0 passes);
        enough = omega arith;
        few = omega (arith, length-take r bytes);
      },
    )
  where
    is_digit : (b : ℕ) → is_other b ≡ false → is_ascii_hexdigit b ≡ true
    is_digit b fails = not_false (is_ascii_hexdigit b) fails

pub front_from_mask : (bytes : List ℕ) (r : ℕ) → 16 ≤ length bytes → r ≡ first_set (others_in 16 bytes) → IsFrontOf is_ascii_hexdigit r bytes
front_from_mask bytes r room found =
    let v = chunk 0 16 bytes in
    let long : length v ≡ 16 = length-chunk 0 16 bytes room in
    let counted : r ≡ prefix_len (λ x. not (is_other x)) v = found ∙ first_set_mask_l is_other v 16 long (omega arith) in
    let few : r ≤ 16 = run_in_chunk_le is_other bytes 0 16 r 0 room counted in
    run_from_prefix bytes 16 r room counted few

-- ---- the digits behind some bytes

shifted : (k : ℕ) (bits : List Bool) → k ≤ length bits → mask_l bits / 2 ^ k ≡ mask_l (drop k bits)
shifted k bits enough =
    let front = take k bits in
    let long : length front ≡ k = length-take-le k bits enough in
    let low : mask_l front < 2 ^ k = subst (λ (n : ℕ). mask_l front < 2 ^ n) long (mask_l-lt front) in
    let parts : mask_l bits ≡ mask_l (drop k bits) * 2 ^ k + mask_l front =
    ap mask_l (sym (take-append-drop k bits)) ∙ joined front (drop k bits) ∙ ap (λ (n : ℕ). mask_l front + 2 ^ n * mask_l (drop k bits)) long
    ∙ turned (mask_l front) (2 ^ k) (mask_l (drop k bits))
    in
    ap (λ (n : ℕ). n / 2 ^ k) parts ∙ shr_high (mask_l (drop k bits)) k (mask_l front) low
  where
    turned : (a b c : ℕ) → a + b * c ≡ c * b + a
    turned a b c = omega (arith, mul_comm b c)

-- a mask without a bit has none that is found below 64
some_set : (mask : ℕ) → trailing_zeros w64 mask ≤ 16 → 0 < mask
unfolding count_trailing_zeros
some_set zero few =
    let full : trailing_zeros w64 0 ≡ 64 = refl in
    omega (arith, few, full)
some_set (suc n) few = omega arith

pub digits_from_mask : (told : Told) (bytes : List ℕ) (r : ℕ) → Tells told bytes → r ≡ trailing_zeros w64 (told.others / 2 ^ told.passed) → r ≤ 16
    → IsFrontOf is_ascii_hexdigit r bytes
digits_from_mask told bytes r tells found few =
    let at = told.passed in
    let all = tells.before ++ bytes in
    let n = 32 - at in
    let v = chunk 0 n bytes in
    let whole : 32 ≡ at + n = omega (arith, tells.few) in
    let behind : drop at all ≡ bytes = ap (λ (k : ℕ). drop k all) tells.passed ∙ drop-append_seam tells.before bytes in
    let cut : drop at (take 32 all) ≡ v = ap (λ (k : ℕ). drop at (take k all)) whole ∙ drop-take at n all ∙ ap (take n) behind in
    let total : length all ≡ at + length bytes = length-append tells.before bytes ∙ ap (λ (k : ℕ). k + length bytes) (sym tells.passed) in
    let long : length (map is_other (take 32 all)) ≡ 32 = length-map (take 32 all) is_other ∙ length-take-le 32 all (omega (arith, total, tells.enough)) in
    let mask : told.others / 2 ^ at ≡ mask_l (map is_other v) =
    ap (λ (m : ℕ). m / 2 ^ at) tells.others ∙ shifted at (map is_other (take 32 all)) (omega (arith, long, tells.few))
    ∙ ap mask_l (drop-map is_other at (take 32 all) ∙ ap (map is_other) cut)
    in
    let is : r ≡ trailing_zeros w64 (mask_l (map is_other v)) = found ∙ ap (trailing_zeros w64) mask in
    let set : 0 < mask_l (map is_other v) = some_set (mask_l (map is_other v)) (subst (λ (k : ℕ). k ≤ 16) is few) in
    let room : n ≤ length bytes = omega (arith, tells.enough) in
    let counted : r ≡ prefix_len (λ x. not (is_other x)) v = is ∙ trailing_mask_l is_other 64 v (omega (arith, length-chunk 0 n bytes (omega (arith, room)))) set in
    run_from_prefix bytes n r room counted few

-- before any are passed
pub tells_all : (others : ℕ) (bytes : List ℕ) → others ≡ others_in 32 bytes → 32 ≤ length bytes → Tells (record { others = others; passed = 0 }) bytes
tells_all others bytes mask enough = record { before = []; passed = refl; few = omega arith; enough = omega (arith, enough); others = mask }

-- some bytes, and one behind them, are passed
pub tells_on : (told : Told) (n : ℕ) (bytes first rest : List ℕ) (b : ℕ) → Tells told bytes → bytes ≡ first ++ (b ∷ rest)
    → n ≡ told.passed + length first + 1 → n ≤ 32 → Tells (record { others = told.others; passed = n }) rest
tells_on told n bytes first rest b tells is passed few =
    let before = tells.before in
    let more : before ++ bytes ≡ (before ++ (first ++ b ∷ [])) ++ rest = ap (λ (z : List ℕ). before ++ z) is ∙ simp append_assoc in
    record {
      before = before ++ (first ++ b ∷ []);
      passed = omega (arith, passed, tells.passed, length-append before (first ++ b ∷ []), length-append first (b ∷ []));
      few = few;
      enough = omega (arith, passed, tells.enough, ap (λ (l : List ℕ). length l) is, length-append first (b ∷ rest));
      others = tells.others ∙ ap (others_in 32) more;
    }
