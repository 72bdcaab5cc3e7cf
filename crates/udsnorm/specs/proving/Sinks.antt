-- Devices of proof: what is said to a line of so much room, text after text.
use Rattle.std.proofs.Common.{◌≡◌, ◌∙◌, ◌+◌, ◌≤◌, ℕ, List, [], ◌++◌, length, ap, sym, append_assoc, append-nil, length-append, arith}

-- It took a text behind what it had, where there was room.
abbrev pub TookWithin : ℕ → List ℕ → List ℕ → List ℕ → Type 0
TookWithin room old text new = length old + length text ≤ room → new ≡ old ++ text

-- no text
pub took_nothing_within : (room : ℕ) (line : List ℕ) → TookWithin room line [] line
took_nothing_within room line fits = sym (append-nil line)

-- and one after another
pub took_onward_within : (room : ℕ) (old mid new a b : List ℕ) → TookWithin room old a mid → TookWithin room mid b new → TookWithin room old (a ++ b) new
took_onward_within room old mid new a b one two fits =
    let both = length-append a b in
    let first = one (omega (arith, both, fits)) in
    let longer = ap length first ∙ length-append old a in
    two (omega (arith, both, fits, longer)) ∙ ap (λ line. line ++ b) first ∙ append_assoc old a b
