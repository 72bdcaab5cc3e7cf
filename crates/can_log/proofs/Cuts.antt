-- A list that is cut at two of its elements.
use Rattle.std.proofs.Common.{◌≡◌, List, [], ◌∷◌, ◌++◌, refl, sym, ap, inl, inr, ◌⊎◌}

-- a list is x between a and p, and y between b and q: the two cuts are one, or the first is before the other, or after it
abbrev pub TwoCuts : {X : Type 0} → List X → X → List X → List X → X → List X → Type 0
TwoCuts {X} a x p b y q = ((a ≡ b) × (x ≡ y) × (p ≡ q)) ⊎ (((z : List X) × (b ≡ a ++ x ∷ z)) ⊎ ((z : List X) × (a ≡ b ++ y ∷ z)))

pub two_cuts : {X : Type 0} (a : List X) (x : X) (p b : List X) (y : X) (q : List X) → a ++ x ∷ p ≡ b ++ y ∷ q → TwoCuts a x p b y q
two_cuts [] x p [] y q e = inl (refl, cc, cc)
two_cuts {X} [] x p (c ∷ b) y q e = inr (inl (b, let same : x ≡ c = cc in ap (λ (z : X). z ∷ b) (sym same)))
two_cuts {X} (c ∷ a) x p [] y q e = inr (inr (a, let same : c ≡ y = cc in ap (λ (z : X). z ∷ a) same))
two_cuts (c ∷ a) x p (d ∷ b) y q e =
    let same : c ≡ d = cc in
    let rest : a ++ x ∷ p ≡ b ++ y ∷ q = cc in
    elim (two_cuts a x p b y q rest) [
      | inl (h, k, l) ↦ inl (cc, k, l)
      | inr (inl (z, h)) ↦ inr (inl (z, cc))
      | inr (inr (z, h)) ↦ inr (inr (z, cc))
    ]
