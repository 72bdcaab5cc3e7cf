-- Results: what they hold, and what is known of two fields that are read one after the other.
use Rattle.std.proofs.Common.{◌≡◌, List, ℕ, Result, Ok, Err, refl, ap, inl, inr, ◌⊎◌}
use Rattle.std.specs.Prelude.{OnOk, IsOk}
use Rattle.can_log.specs.proving.FieldReader.{Stop, refused, FieldRead, Reader, read_on}

pub from_ok : {A E P : Type 0} (r : Result A E) → OnOk r P → IsOk r → P
from_ok (Ok x) h ok = h
from_ok (Err e) h ok = absurd cc

pub ok_is : {A E : Type 0} (x y : A) → ◌≡◌ {A = Result A E} (Ok x) (Ok y) → x ≡ y
ok_is x y e = cc

-- a value that was read, and the bytes after it
pub value_is : {V : Type 0} (v w : V) (a b : List ℕ) → ◌≡◌ {A = FieldRead V} (Ok (v, a)) (Ok (w, b)) → v ≡ w
value_is {V} v w a b e = ap (λ (q : V × List ℕ). q.0) (ok_is (v, a) (w, b) e)

pub rest_is : {V : Type 0} (v w : V) (a b : List ℕ) → ◌≡◌ {A = FieldRead V} (Ok (v, a)) (Ok (w, b)) → a ≡ b
rest_is {V} v w a b e = ap (λ (q : V × List ℕ). q.1) (ok_is (v, a) (w, b) e)

pub refused_is : {V : Type 0} (a b : List ℕ) → ◌≡◌ {A = FieldRead V} (Err (refused a)) (Err (refused b)) → a ≡ b
refused_is a b e = cc

-- what a first field gave, where the second gave a value
pub read_on-ok : {V W : Type 0} (r : FieldRead V) (next : V → Reader W) (y : W × List ℕ) → read_on r next ≡ Ok y → (x : V × List ℕ) × (r ≡ Ok x) × (next x.0 x.1 ≡ Ok y)
read_on-ok (Ok x) next y e = (x, refl, e)
read_on-ok (Err t) next y e = absurd cc

-- which of the two failed
pub read_on-err : {V W : Type 0} (r : FieldRead V) (next : V → Reader W) (t : Stop) → read_on r next ≡ Err t
    → (r ≡ Err t) ⊎ ((x : V × List ℕ) × (r ≡ Ok x) × (next x.0 x.1 ≡ Err t))
read_on-err (Ok x) next t e = inr (x, refl, e)
read_on-err (Err d) next t e = inl cc
