-- The canonical lines of frames after other frames.
use Rattle.std.proofs.Common.{◌≡◌, ℕ, ◌+◌, List, [], ◌∷◌, ◌++◌, length, arith, refl}
use Rattle.std.proofs.Common.{add-zero}
use Rattle.direction.specs.declared.Dir.{Dir}
use Rattle.trace_log.specs.Settings.{Settings}
use Rattle.trace_log.specs.CanonicalLog.{canonical_lines}

pub canonical_lines-append : (settings : Settings) (n : ℕ) (xs ys : List (Dir × List ℕ))
    → canonical_lines settings n (xs ++ ys) ≡ canonical_lines settings n xs ++ canonical_lines settings (n + length xs) ys
unfolding canonical_lines
canonical_lines-append settings n [] ys = rw add-zero refl
canonical_lines-append settings n (x ∷ xs) ys =
    let at : n + 1 + length xs ≡ n + length (x ∷ xs) = omega arith in
    let rest = canonical_lines-append settings (n + 1) xs ys in
    rw (← at, rest) refl
