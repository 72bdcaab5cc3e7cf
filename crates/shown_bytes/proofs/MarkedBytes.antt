-- The marks of bytes, one after another.
use Prim.Native.Nat.{zero, suc}
use Rattle.std.proofs.Common.{◌≡◌, ◌≤◌, ℕ, ◌+◌, ◌-◌, ◌<◌, Bool, false, List, [], ◌∷◌, ◌++◌, drop, replicate, arith, refl, ap, sym, ◌∙◌}
use Rattle.shown_bytes.specs.Data.{is_marked, marks_behind}

-- the first byte before a mask is none that it changes
pub none_marked : (before : ℕ) (places : List Bool) → 0 < before → false ≡ is_marked (replicate before false ++ places)
none_marked zero places some = absurd (omega (arith, some))
none_marked (suc before) places some = refl

-- and of those behind it so many less stand before the mask
pub one_less : (before : ℕ) (places : List Bool) → 0 < before
    → replicate (before - 1) false ++ places ≡ marks_behind (replicate before false ++ places)
one_less zero places some = absurd (omega (arith, some))
one_less (suc before) places some =
    let less : suc before - 1 ≡ before = omega arith in
    ap (λ n. replicate n false ++ places) less

-- where no byte stands before a mask, its places tell
pub none_before : (before : ℕ) (places : List Bool) → before ≤ 0 → replicate before false ++ places ≡ places
none_before zero places none = refl
none_before (suc before) places none = absurd (omega (arith, none))

none_behind : (count : ℕ) → marks_behind [] ≡ drop count []
none_behind zero = refl
none_behind (suc count) = refl

-- the marks behind one more byte
pub skipped_more : (marks : List Bool) (count : ℕ) → marks_behind (drop count marks) ≡ drop (count + 1) marks
skipped_more [] zero = refl
skipped_more [] (suc count) = none_behind (suc count + 1)
skipped_more (mark ∷ marks) zero = refl
skipped_more (mark ∷ marks) (suc count) =
    skipped_more marks count ∙ ap (λ n. drop n (mark ∷ marks)) (let next : suc (count + 1) ≡ suc count + 1 = omega arith in next)
