-- The table of the digits that are written.
use Prim.Native.Nat.{suc}
use Rattle.std.proofs.Common.{◌≡◌, ℕ, ◌+◌, ◌*◌, ◌/◌, ◌<◌, ◌≤◌, Bool, List, [], ◌∷◌, map, cond, length, get_or, leb, refl, ap, ◌∙◌, arith}
use mir.Syntax.{w8}
use Rattle.std.proofs.lemmas.Simd.{swz_l}
use Rattle.std.specs.List.{AllByRecursion}
use Rattle.std.proofs.lemmas.Bool.{lt-leb}
use Rattle.std.proofs.lemmas.List.FromFn.{get_or-map-range_with_len}
use Rattle.std.specs.Prelude.{codes}
use Rattle.std.specs.List.{range_with_len}
use Rattle.can_log.specs.Digits.{digit}

abbrev table : List ℕ
table = codes "0123456789ABCDEF"

table_is : table ≡ map digit (range_with_len 0 16)
table_is = refl

pub digit_at : (number : ℕ) → number < 16 → get_or table number 0 ≡ digit number
digit_at number lt = ap (λ (t : List ℕ). get_or t number 0) table_is ∙ get_or-map-range_with_len digit 0 16 number number 0 lt (omega arith)

-- the table looked up at the values of lanes, from lane i on
pub looked_up : (i : ℕ) (values : List ℕ) → i + length values ≤ 16 → AllByRecursion (λ v. v < 16) values → swz_l w8 16 table i values ≡ map digit values
looked_up i [] few each = refl
looked_up i (v ∷ values) few each =
    let place : 16 * (i / 16) + v ≡ v = omega arith in
    let here : cond (leb 128 v) 0 (get_or table (16 * (i / 16) + v) 0) ≡ digit v =
    ap (λ (t : Bool). cond t 0 (get_or table (16 * (i / 16) + v) 0)) (lt-leb 128 v (omega (arith, each.0)))
    ∙ ap (λ (k : ℕ). get_or table k 0) place ∙ digit_at v each.0 in
    λ k. here k ∷ looked_up (suc i) values (omega arith) each.1 k
