-- The first byte of some bytes: which may stand there, where there is one.
use Rattle.std.proofs.Common.{◌≡◌, ℕ, Bool, true, false, List, [], ◌∷◌, ◌++◌, ap, subst, sym, ◌∙◌}
use Rattle.std.specs.Prelude.{◌==◌}
use Rattle.std.proofs.lemmas.Bool.{eqb-true}

-- there is no first byte, or P holds of it
abbrev pub Follows : (ℕ → Type 0) → List ℕ → Type 0
Follows P [] = Unit {0}
Follows P (b ∷ bytes) = P b

-- a first byte, if there is one, fails the test
abbrev pub Misses : (ℕ → Bool) → List ℕ → Type 0
Misses test = Follows (λ b. test b ≡ false)

-- there is a first byte, and it passes the test
abbrev pub Starts : (ℕ → Bool) → List ℕ → Type 0
Starts test [] = ⊥
Starts test (b ∷ bytes) = test b ≡ true

abbrev pub AnyByte : ℕ → Type 0
AnyByte b = Unit {0}

pub any_follows : (bytes : List ℕ) → Follows AnyByte bytes
any_follows [] = tt
any_follows (b ∷ bytes) = tt

module _ (P : ℕ → Type 0) where
  pub follows_weaker : (Q : ℕ → Type 0) → ((b : ℕ) → P b → Q b) → (bytes : List ℕ) → Follows P bytes → Follows Q bytes
  follows_weaker Q implies [] h = tt
  follows_weaker Q implies (b ∷ bytes) h = implies b h

  pub follows_append : (text rest : List ℕ) → Follows P text → Follows P rest → Follows P (text ++ rest)
  follows_append [] rest h k = k
  follows_append (b ∷ text) rest h k = h

  pub follows_front : (text rest : List ℕ) → Follows P (text ++ rest) → Follows P text
  follows_front [] rest h = tt
  follows_front (b ∷ text) rest h = h

  -- what follows a byte does not matter
  pub follows_head : (text : List ℕ) (b : ℕ) (after other : List ℕ) → Follows P (text ++ b ∷ after) → Follows P (text ++ b ∷ other)
  follows_head [] b after other h = h
  follows_head (c ∷ text) b after other h = h

  -- a text that is not empty
  pub follows_first : (text rest : List ℕ) (b : ℕ) (after : List ℕ) → text ≡ b ∷ after → P b → Follows P (text ++ rest)
  follows_first text rest b after e h = subst (λ (z : List ℕ). Follows P (z ++ rest)) (sym e) h

module _ (test : ℕ → Bool) where
  pub starts_append : (text rest : List ℕ) → Starts test text → Starts test (text ++ rest)
  starts_append [] rest h = absurd h
  starts_append (b ∷ text) rest h = h

  pub starts_head : (text : List ℕ) (b : ℕ) (after other : List ℕ) → Starts test (text ++ b ∷ after) → Starts test (text ++ b ∷ other)
  starts_head [] b after other h = h
  starts_head (c ∷ text) b after other h = h

  pub starts_first : (text : List ℕ) (b : ℕ) (after : List ℕ) → text ≡ b ∷ after → test b ≡ true → Starts test text
  starts_first text b after e h = subst (Starts test) (sym e) h

-- a text that starts with one byte does not start with another
pub starts_misses : (c d : ℕ) → (c == d) ≡ false → (text : List ℕ) → Starts (λ b. b == c) text → Misses (λ b. b == d) text
starts_misses c d h [] s = absurd s
starts_misses c d h (b ∷ text) s = ap (λ (z : ℕ). z == d) (eqb-true b c s) ∙ h

-- texts that differ only after some byte have the same first byte
pub first_of_both : (text : List ℕ) (b : ℕ) (after other bytes : List ℕ) → bytes ≡ text ++ b ∷ after
    → (c : ℕ) (more : List ℕ) → text ++ b ∷ other ≡ c ∷ more → (behind : List ℕ) × (bytes ≡ c ∷ behind)
first_of_both [] b after other bytes e c more h = (after, cc)
first_of_both (d ∷ text) b after other bytes e c more h = (text ++ b ∷ after, cc)

pub first_of_front : (text : List ℕ) (b : ℕ) (after bytes : List ℕ) → bytes ≡ text ++ b ∷ after
    → (c : ℕ) (more : List ℕ) → text ≡ c ∷ more → (behind : List ℕ) × (bytes ≡ c ∷ behind)
first_of_front [] b after bytes e c more h = absurd cc
first_of_front (d ∷ text) b after bytes e c more h = (text ++ b ∷ after, cc)
