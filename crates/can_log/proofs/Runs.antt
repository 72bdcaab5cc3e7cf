-- How a run of bytes goes on.
use Rattle.std.proofs.Common.{◌≡◌, ℕ, zero, suc, ◌+◌, ◌-◌, ◌<◌, ◌≤◌, true, false, List, [], ◌∷◌, length, get_or, drop, refl, ap, ◌∙◌, arith}
use Rattle.std.specs.List.{list_all}
use Rattle.std.proofs.lemmas.Bool.{and_parts}
use Rattle.std.proofs.Math.Seq.{drop-cons, drop-length}
use Rattle.can_log.specs.declared.field.Class.{Class}
use Rattle.can_log.specs.proving.FieldReader.{is_in, run_length}

pub run_length-done : (class : Class) (bytes : List ℕ) → run_length class 0 bytes ≡ 0
unfolding run_length
run_length-done class bytes = refl

pub run_length-nil : (class : Class) (most : ℕ) → run_length class most [] ≡ 0
unfolding run_length
run_length-nil class zero = refl
run_length-nil class (suc most) = refl

pub run_length-in : (class : Class) (most b : ℕ) (bytes : List ℕ) → is_in class b ≡ true → run_length class (suc most) (b ∷ bytes) ≡ suc (run_length class most bytes)
unfolding run_length
run_length-in class most b bytes h = rw h refl

pub run_length-out : (class : Class) (most b : ℕ) (bytes : List ℕ) → is_in class b ≡ false → run_length class most (b ∷ bytes) ≡ 0
unfolding run_length
run_length-out class zero b bytes h = refl
run_length-out class (suc most) b bytes h = rw h refl

-- all the bytes are of the class
pub whole_run : (class : Class) (most : ℕ) (bytes : List ℕ) → list_all (is_in class) bytes ≡ true → length bytes ≤ most → run_length class most bytes ≡ length bytes
whole_run class most [] all few = run_length-nil class most
whole_run class zero (b ∷ bytes) all few = absurd (omega arith)
whole_run class (suc most) (b ∷ bytes) all few =
    let each = and_parts (is_in class b) (list_all (is_in class) bytes) all in
    run_length-in class most b bytes each.0 ∙ ap suc (whole_run class most bytes each.1 (omega arith))

-- one more byte of the class
pub goes_on : (class : Class) (most n : ℕ) (bytes : List ℕ) (total : ℕ) → n < most → n < length bytes → is_in class (get_or bytes n 0) ≡ true
    → n + run_length class (most - n) (drop n bytes) ≡ total → n + 1 + run_length class (most - (n + 1)) (drop (n + 1) bytes) ≡ total
goes_on class most n bytes total below within h so_far =
    let k : most - n ≡ suc (most - (n + 1)) = omega arith in
    let s : n + 1 ≡ suc n = omega arith in
    let one : run_length class (most - n) (drop n bytes) ≡ suc (run_length class (most - (n + 1)) (drop (n + 1) bytes)) =
    rw (k, drop-cons bytes n 0 within, s) (run_length-in class (most - suc n) (get_or bytes n 0) (drop (suc n) bytes) h)
    in
    omega (arith, one)

pub stops : (class : Class) (most n : ℕ) (bytes : List ℕ) (total : ℕ) → n < length bytes → is_in class (get_or bytes n 0) ≡ false
    → n + run_length class (most - n) (drop n bytes) ≡ total → n ≡ total
stops class most n bytes total within h so_far =
    let one : run_length class (most - n) (drop n bytes) ≡ 0 = rw (drop-cons bytes n 0 within) (run_length-out class (most - n) (get_or bytes n 0) (drop (suc n) bytes) h) in
    omega (arith, one)

pub ends : (class : Class) (most n : ℕ) (bytes : List ℕ) (total : ℕ) → n ≡ length bytes
    → n + run_length class (most - n) (drop n bytes) ≡ total → n ≡ total
ends class most n bytes total at so_far =
    let one : run_length class (most - n) (drop n bytes) ≡ 0 = rw (at, drop-length bytes) (run_length-nil class (most - length bytes)) in
    omega (arith, one)

pub is_full : (class : Class) (most n : ℕ) (bytes : List ℕ) (total : ℕ) → n ≡ most
    → n + run_length class (most - n) (drop n bytes) ≡ total → n ≡ total
is_full class most n bytes total at so_far =
    let z : most - n ≡ 0 = omega arith in
    let one : run_length class (most - n) (drop n bytes) ≡ 0 = rw z (run_length-done class (drop n bytes)) in
    omega (arith, one)
