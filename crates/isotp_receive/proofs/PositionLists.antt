-- Lists of positions: what is in them, what rises, what comes last, and what holds of each with its number.
use Rattle.std.proofs.Common.{◌≡◌, ℕ, suc, ◌+◌, ◌≤◌, List, [], ◌∷◌, ◌++◌, length, refl, ap, arith, inl, inr, subst}
use Rattle.std.specs.Prelude.{◌⊎◌}
use Rattle.std.proofs.lemmas.Bool.{cases_lt}
use Rattle.isotp_receive.specs.Recording.{EachNumbered, IsRisingFrom, IsIn, last_or, AllBefore}

-- ---- what is in a list

pub in-append : (p : ℕ) (ps qs : List ℕ) → IsIn p (ps ++ qs) → IsIn p ps ⊎ IsIn p qs
in-append p [] qs i = inr i
in-append p (r ∷ ps) qs (inl e) = inl (inl e)
in-append p (r ∷ ps) qs (inr i) = elim (in-append p ps qs i) [ inl a ↦ inl (inr a) | inr b ↦ inr b ]

pub in-left : (p : ℕ) (ps qs : List ℕ) → IsIn p ps → IsIn p (ps ++ qs)
in-left p [] qs i = absurd i
in-left p (r ∷ ps) qs (inl e) = inl e
in-left p (r ∷ ps) qs (inr i) = inr (in-left p ps qs i)

pub in-right : (p : ℕ) (ps qs : List ℕ) → IsIn p qs → IsIn p (ps ++ qs)
in-right p [] qs i = i
in-right p (r ∷ ps) qs i = inr (in-right p ps qs i)

-- ---- lists that rise

pub above-least : (n p : ℕ) (ps : List ℕ) → IsRisingFrom n ps → IsIn p ps → n ≤ p
above-least n p [] h i = absurd i
above-least n p (q ∷ qs) h (inl e) = (let a = h.0 in omega arith)
above-least n p (q ∷ qs) h (inr i) = (let a = above-least (suc q) p qs h.1 i in let b = h.0 in omega arith)

pub below-last : (n p q : ℕ) (qs : List ℕ) → IsRisingFrom n (q ∷ qs) → IsIn p (q ∷ qs) → p ≤ last_or q qs
below-last n p q [] h (inl is) = omega arith
below-last n p q [] h (inr i) = absurd i
below-last n p q (r ∷ qs) h (inl is) = (let a = h.1.0 in let b = below-last (suc q) r r qs h.1 (inl refl) in omega arith)
below-last n p q (r ∷ qs) h (inr i) = below-last (suc q) p r qs h.1 i

-- n is the first of the list, or not in it
pub first-or-later : (n : ℕ) (ps : List ℕ) → IsRisingFrom n ps → ((rest : List ℕ) × (ps ≡ n ∷ rest) × IsRisingFrom (suc n) rest) ⊎ IsRisingFrom (suc n) ps
first-or-later n [] h = inr tt
first-or-later n (p ∷ ps) h = elim (cases_lt n p) [
  | inl later ↦ inr (later, h.1)
  | inr most ↦ (let same : p ≡ n = (let least = h.0 in omega arith) in
      inl (ps, ap (λ x. x ∷ ps) same, subst (λ x. IsRisingFrom (suc x) ps) same h.1))
]

raise : (n k : ℕ) (qs : List ℕ) → IsRisingFrom k qs → ((q : ℕ) → IsIn q qs → n ≤ q) → IsRisingFrom n qs
raise n k [] h above = tt
raise n k (q ∷ qs) h above = (above q (inl refl), h.1)

pub rising-append : (n : ℕ) (ps qs : List ℕ) → IsRisingFrom n ps → IsRisingFrom 0 qs → AllBefore ps qs → ((q : ℕ) → IsIn q qs → n ≤ q) → IsRisingFrom n (ps ++ qs)
rising-append n [] qs h g before above = raise n 0 qs g above
rising-append n (p ∷ ps) qs h g before above =
    (h.0, rising-append (suc p) ps qs h.1 g (λ a b i j. before a b (inr i) j) (λ q j. let lt = before p q (inl refl) j in omega arith))

-- ---- the last of a list

pub last-in : (p : ℕ) (ps : List ℕ) → IsIn (last_or p ps) (p ∷ ps)
last-in p [] = inl refl
last-in p (q ∷ qs) = inr (last-in q qs)

pub last-is-in : (p : ℕ) (ps : List ℕ) → IsIn p ps → IsIn (last_or 0 ps) ps
last-is-in p [] i = absurd i
last-is-in p (q ∷ qs) i = last-in q qs

pub last-snoc : (i n : ℕ) (cs : List ℕ) → last_or i (cs ++ n ∷ []) ≡ n
last-snoc i n [] = refl
last-snoc i n (c ∷ cs) = last-snoc c n cs

-- ---- what holds of each with its number

pub numbered-in : (P : ℕ → ℕ → Type 0) (k p : ℕ) (ps : List ℕ) → EachNumbered P k ps → IsIn p ps → (j : ℕ) × P j p
numbered-in P k p [] h i = absurd i
numbered-in P k p (q ∷ ps) h (inl is) = (k, rw is h.0)
numbered-in P k p (q ∷ ps) h (inr i) = numbered-in P (k + 1) p ps h.1 i

pub numbered-snoc : (P : ℕ → ℕ → Type 0) (k c : ℕ) (cs : List ℕ) → EachNumbered P k cs → P (k + length cs) c → EachNumbered P k (cs ++ c ∷ [])
numbered-snoc P k c [] h p = (let e : k + 0 ≡ k = omega arith in subst (λ j. P j c) e p, tt)
numbered-snoc P k c (x ∷ cs) h p = (h.0, numbered-snoc P (k + 1) c cs h.1 (let e : k + suc (length cs) ≡ k + 1 + length cs = omega arith in subst (λ j. P j c) e p))
