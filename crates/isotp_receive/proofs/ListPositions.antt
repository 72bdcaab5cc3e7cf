-- Positions of a list: what is at a position, before it, and after it.
use Rattle.std.proofs.Common.{◌≡◌, ℕ, zero, suc, ◌+◌, ◌-◌, ◌<◌, List, [], ◌∷◌, ◌++◌, length, take, drop, Some, refl, sym, ◌∙◌, ap, arith, append_assoc}
use Rattle.std.proofs.Common.{length-append}
use Rattle.std.specs.Prelude.{slice_get, slice_range}
use Rattle.std.proofs.Math.Seq.{drop-append-add}
use Rattle.std.proofs.lemmas.List.{take_at}

pub cons-head : {X : Type 0} {x y : X} {xs ys : List X} → x ∷ xs ≡ y ∷ ys → x ≡ y
cons-head h = cc

pub cons-tail : {X : Type 0} {x y : X} {xs ys : List X} → x ∷ xs ≡ y ∷ ys → xs ≡ ys
cons-tail h = cc

-- ---- what is at a position

pub get-same : {X : Type 0} (xs : List X) (c : ℕ) (x y : X) → slice_get xs c ≡ Some x → slice_get xs c ≡ Some y → x ≡ y
get-same xs c x y h g = cc

pub get-here : {X : Type 0} (before after : List X) (x : X) → slice_get (before ++ x ∷ after) (length before) ≡ Some x
get-here [] after x = refl
get-here (y ∷ before) after x = get-here before after x

-- the same, where the list and the position are spelled in another way
pub get-behind : {X : Type 0} (xs before after : List X) (c : ℕ) (x : X) → xs ≡ before ++ x ∷ after → c ≡ length before → slice_get xs c ≡ Some x
get-behind xs before after c x split size = rw (split, size) (get-here before after x)

-- within the first of two lists
pub get-left : {X : Type 0} (xs ys : List X) (c : ℕ) → c < length xs → slice_get (xs ++ ys) c ≡ slice_get xs c
get-left [] ys c below = absurd (omega arith)
get-left (x ∷ xs) ys zero below = refl
get-left (x ∷ xs) ys (suc c) below = get-left xs ys c (omega arith)

-- after the first n
pub get-drop : {X : Type 0} (n : ℕ) (xs : List X) (j c : ℕ) → c ≡ n + j → slice_get xs c ≡ slice_get (drop n xs) j
get-drop zero xs j c e = (let same : c ≡ j = omega arith in ap (slice_get xs) same)
get-drop (suc n) [] j c e = refl
get-drop (suc n) (x ∷ xs) j zero e = absurd (omega arith)
get-drop (suc n) (x ∷ xs) j (suc c) e = get-drop n xs j c (omega arith)

-- ---- what is before and after it

pub split-at : {X : Type 0} (xs : List X) (c : ℕ) (x : X) → slice_get xs c ≡ Some x
    → (before : List X) × (after : List X) × (xs ≡ before ++ x ∷ after) × (length before ≡ c)
split-at [] c x h = absurd (cc)
split-at (y ∷ xs) zero x h = (let same : y ≡ x = cc in ([], xs, ap (λ z. z ∷ xs) same, refl))
split-at (y ∷ xs) (suc c) x h =
    let rest = split-at xs c x h in
    (y ∷ rest.0, rest.1, ap (λ l. y ∷ l) rest.2, ap suc rest.3)

-- what is at c, after y
pub split-behind : {X : Type 0} (before : List X) (y : X) (rest : List X) (c : ℕ) (x : X) → length before < c → slice_get (before ++ y ∷ rest) c ≡ Some x
    → (b : List X) × (after : List X) × (rest ≡ b ++ x ∷ after) × (c ≡ suc (length before) + length b)
split-behind [] y rest zero x later h = absurd (omega arith)
split-behind [] y rest (suc c) x later h =
    let w = split-at rest c x h in
    (w.0, w.1, w.2, (let e = w.3 in omega arith))
split-behind (z ∷ before) y rest zero x later h = absurd (omega arith)
split-behind (z ∷ before) y rest (suc c) x later h =
    let w = split-behind before y rest c x (omega arith) h in
    (w.0, w.1, w.2, (let e = w.3 in omega arith))

-- the elements strictly between y and what follows b
pub range-behind : {X : Type 0} (before : List X) (y : X) (b rest : List X)
    → slice_range (before ++ y ∷ (b ++ rest)) (length before + 1) (suc (length before) + length b) ≡ b
range-behind before y b rest =
    let size : suc (length before) + length b - (length before + 1) ≡ length b = omega arith in
    ap (take (suc (length before) + length b - (length before + 1))) (drop-append-add before (y ∷ (b ++ rest)) 1)
    ∙ ap (λ n. take n (b ++ rest)) size ∙ take_at b rest (length b) refl

-- a list that is split at x, and goes on after that
pub regrouped : {X : Type 0} (xs rest before after : List X) (x : X) → xs ≡ before ++ x ∷ after → before ++ x ∷ (after ++ rest) ≡ xs ++ rest
regrouped xs rest before after x splits = sym (ap (λ l. l ++ rest) splits ∙ append_assoc before (x ∷ after) rest)

pub split-length : {X : Type 0} (xs before after : List X) (x : X) → xs ≡ before ++ x ∷ after → suc (length before) + length after ≡ length xs
split-length xs before after x splits = (let size = ap length splits ∙ length-append before (x ∷ after) in omega arith)
