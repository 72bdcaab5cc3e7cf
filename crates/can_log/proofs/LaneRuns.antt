-- From the mask of one load to the bytes at the front that pass a test.
use Prim.Native.Nat.{zero, suc}
use Rattle.std.proofs.Common.{[], ◌∷◌, drop, length-drop, subst, ◌-◌, ◌≡◌, ℕ, ◌+◌, ◌%◌, ◌^◌, ◌<◌, ◌≤◌, Bool, true, not, ◌||◌, List, map, length, get_or, take, Fits, w8, sym, ap, ◌∙◌, arith}
use Rattle.std.proofs.lemmas.Bool.{agree_below, agree_below_at}
use Rattle.std.proofs.lemmas.Simd.{map-map, mask_l-mod, length-chunk, zip2_of_maps, first_set_mask_l, run_in_chunk_le, run_in_chunk_fails}
use Rattle.std.proofs.lemmas.List.{length-map, length-take, get_or-take}
use Rattle.std.proofs.lemmas.List.Elements.{All-from_get_or, recursion_from_All}
use Rattle.std.specs.Char.{is_ascii_hexdigit}
use Rattle.std.specs.List.{AllByRecursion, prefix_len}
use Rattle.std.proofs.Math.Seq.{take-add, take-length}
use Rattle.can_log.proofs.DigitValues.{AreHex}
use Rattle.can_log.proofs.EachElement.{AllByRecursion-append}
use lib.Lanes.{Each1, chunk, zip2, mask_l, top}
use Rattle.can_log.specs.proving.Plain.{IsFrontOf, first_set}

-- an operation on two vectors that were computed lane by lane from v
pub lanes_joined : (h : ℕ → ℕ → ℕ) (f g : ℕ → ℕ) (v : List ℕ) {a b : List ℕ} → a ≡ map f v → b ≡ map g v → zip2 h a b ≡ map (λ x. h (f x) (g x)) v
lanes_joined h f g v p q = zip2_of_maps h f g v p q

-- a lane stops where a byte fails the test q
pub run_in_front : (q : ℕ → Bool) (bytes : List ℕ) (r : ℕ) (z : List ℕ) → 16 ≤ length bytes → ((k : ℕ) → Fits w8 (get_or bytes k 0))
    → r ≡ first_set (mask_l (map (top 7) z) % 2 ^ 64) → (f : ℕ → ℕ) → z ≡ map f (chunk 0 16 bytes)
    → agree_below (λ x. top 7 (f x) || q x) (λ _. true) 256 ≡ true
    → IsFrontOf q r bytes
run_in_front q bytes r z room fits found f lanes all =
    let stops : ℕ → Bool = λ x. top 7 (f x) in
    let v = chunk 0 16 bytes in
    let long : length v ≡ 16 = length-chunk 0 16 bytes room in
    let mask = ap (λ (l : List Bool). mask_l l % 2 ^ 64) (ap (map (top 7)) lanes ∙ map-map (top 7) f v) ∙ mask_l-mod (map stops v) 64 (omega (arith, length-map v stops, long)) in
    let counted : r ≡ prefix_len (λ x. not (stops x)) v = found ∙ ap first_set mask ∙ first_set_mask_l stops v 16 long (omega arith) in
    let few : r ≤ 16 = run_in_chunk_le stops bytes 0 16 r 0 room counted in
    let passes : (k : ℕ) → k < length (take r bytes) → q (get_or (take r bytes) k 0) ≡ true =
    λ k lt.
    let below : k < r = omega (arith, length-take r bytes) in
    let no = run_in_chunk_fails stops bytes 0 16 r 0 room counted k (omega arith) (omega arith) in
    ap q (get_or-take r bytes k 0 below)
    ∙ sym (ap (λ (b : Bool). b || q (get_or bytes k 0)) no)
    ∙ agree_below_at (λ x. stops x || q x) (λ _. true) 256 (get_or bytes k 0) all (fits k).fits
    in (
      few,
      record {
        each = recursion_from_All (λ b. q b ≡ true) (take r bytes) (All-from_get_or (λ b. q b ≡ true) (take r bytes) 0 passes);
        enough = omega arith;
        few = omega (arith, length-take r bytes);
      },
    )

-- ---- whole vectors

-- the lanes of a vector fit, and so does the default of a place beyond them
lanes_fit : (lanes : List ℕ) → Each1 (Fits w8) lanes → (k : ℕ) → Fits w8 (get_or lanes k 0)
lanes_fit [] each k = record { fits = omega arith }
lanes_fit (lane ∷ lanes) each zero = each.0
lanes_fit (lane ∷ lanes) each (suc k) = lanes_fit lanes each.1 k

-- sixteen lanes pass the test, where none is found that fails it
pub lanes_pass : (q : ℕ → Bool) (lanes : List ℕ) (r : ℕ) (z : List ℕ) → length lanes ≡ 16 → Each1 (Fits w8) lanes
    → r ≡ first_set (mask_l (map (top 7) z) % 2 ^ 64) → (f : ℕ → ℕ) → z ≡ map f lanes
    → agree_below (λ x. top 7 (f x) || q x) (λ _. true) 256 ≡ true
    → r ≡ 16 → AllByRecursion (λ b. q b ≡ true) lanes
lanes_pass q lanes r z long fit found f computed all none =
    let whole : take 16 lanes ≡ lanes = ap (λ (n : ℕ). take n lanes) (sym long) ∙ take-length lanes in
    let front = run_in_front q lanes r z (omega arith) (lanes_fit lanes fit) found f (computed ∙ ap (map f) (sym whole)) all in
    subst (AllByRecursion (λ b. q b ≡ true)) (ap (λ (n : ℕ). take n lanes) none ∙ whole) front.1.each

-- ---- more loads

-- the run of one load, after some digits
pub hex_more : (at more : ℕ) (bytes : List ℕ) → AreHex (take at bytes) → IsFrontOf is_ascii_hexdigit more (take (length bytes - at) (drop at bytes))
    → AreHex (take (at + more) bytes)
hex_more at more bytes front next =
    let behind : take (length bytes - at) (drop at bytes) ≡ drop at bytes = rw (← length-drop at bytes) (take-length (drop at bytes)) in
    let second = subst (λ (z : List ℕ). AreHex (take more z)) behind next.1.each in
    subst AreHex (sym (take-add at more bytes)) (AllByRecursion-append (λ b. is_ascii_hexdigit b ≡ true) (take at bytes) (take more (drop at bytes)) front second)
