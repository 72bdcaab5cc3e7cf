-- Words that are looked for one that passes.
use Rattle.std.proofs.Common.{◌≡◌, refl, ap, ◌||◌, Bool, List, [], ◌∷◌, map}
use Rattle.std.specs.List.{list_any}

pub any_mapped : {X Y : Type 0} (text : X → Y) (passes : Y → Bool) (words : List X) → list_any (λ word. passes (text word)) words ≡ list_any passes (map text words)
any_mapped text passes [] = refl
any_mapped text passes (word ∷ words) = ap (λ b. passes (text word) || b) (any_mapped text passes words)
