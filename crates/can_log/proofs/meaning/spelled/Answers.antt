use Rattle.std.proofs.Common.{◌≡◌, ◌*◌, ◌<◌, [], ◌∷◌, List, ℕ, get_or, take, sym, true, subst, arith}
use lib.Lanes.{Each1}
use mir.Syntax.{w8}
use Rattle.std.specs.List.{AllByRecursion}
use Rattle.std.specs.Char.{is_ascii_hexdigit}
use Rattle.std.proofs.lemmas.Simd.{pick_l_whole, below_from_Fits}
use Rattle.can_log.proofs.LaneDigits.{front_spelled}
use Rattle.can_log.proofs.meaning.spelled.Goals as goal

pub returns : goal.returns
returns c = λ n few hex.
    let d = c.args.digits in
    let whole = sym (pick_l_whole 0 d 16 c.requires) in
    rw whole (front_spelled n (get_or d 0 0 ∷ get_or d 1 0 ∷ get_or d 2 0 ∷ get_or d 3 0 ∷ get_or d 4 0 ∷ get_or d 5 0 ∷ get_or d 6 0 ∷ get_or d 7 0 ∷ get_or d 8 0 ∷ get_or d 9 0 ∷ get_or d 10 0 ∷ get_or d 11 0 ∷ get_or d 12 0 ∷ get_or d 13 0 ∷ get_or d 14 0 ∷ get_or d 15 0 ∷ [])
    (omega arith)
    (subst (λ (z : List ℕ). AllByRecursion (λ b. is_ascii_hexdigit b ≡ true) (take (2 * n) z)) whole hex)
    (subst (Each1 (λ b. b < 256)) whole (below_from_Fits w8 d c.fits-digits.1)))
