-- The first candidate of each unit, of the entries of a table.
use Rattle.std.proofs.Common.{◌≡◌, ℕ, zero, suc, Bool, true, false, List, [], ◌∷◌, Option, Some, None, refl, sym, ◌∙◌, ap, subst, inl, inr, ◌⊎◌}
use Rattle.std.specs.BTreeMap.{BTreeMap, Updates}
use Rattle.std.specs.List.{slice_get}
use Rattle.std.specs.Map.{lookup}
use Rattle.std.specs.Ordering.{is_lt}
use Rattle.std.specs.Prelude.{if◌then◌else◌}
use Rattle.can_log.specs.declared.frame.Id.{Id}
use Rattle.uds_find.specs.Credit.{is_same}
use Rattle.uds_find.specs.proving.Steps.{candidate_of, first_among, first_of}
use Rattle.uds_find.specs.Tester.{candidate_order}
use Rattle.uds_find.specs.declared.candidate.Candidate.{Candidate}
use Rattle.uds_find.specs.declared.pair.IdPair.{IdPair}
use Rattle.uds_find.proofs.Orders.{candidates-ranked, id_order, same-id, same-identifier}
use Rattle.uds_find.proofs.Tallies.{found-after}

module _ (functional : List Id) where
  -- one entry more was gone through
  pub first-step : (old new : BTreeMap Id Candidate) (entry : IdPair × ℕ) (first : Candidate) → Updates id_order old new entry.0.unit (Some first)
      → first ≡ first_of (lookup (is_same entry.0.unit) old.entries) (candidate_of functional entry) → (unit : Id) (rest : List (IdPair × ℕ))
      → first_among functional unit (lookup (is_same unit) new.entries) rest ≡ first_among functional unit (lookup (is_same unit) old.entries) (entry ∷ rest)
  unfolding first_among
  first-step old new entry first updates is unit rest =
      ap (λ best. first_among functional unit best rest) (found-after id_order is_same same-id entry.0.unit old new first updates unit
      ∙ at (is_same entry.0.unit unit) refl)
    where
      at : (b : Bool) → is_same entry.0.unit unit ≡ b
          → (if is_same entry.0.unit unit then Some first else lookup (is_same unit) old.entries)
          ≡ (if is_same entry.0.unit unit then Some (first_of (lookup (is_same unit) old.entries) (candidate_of functional entry)) else lookup
          (is_same unit) old.entries)
      at true same =
          ap (λ b. if b then Some first else lookup (is_same unit) old.entries) same
          ∙ ap Some (is ∙ ap (λ name. first_of (lookup (is_same name) old.entries) (candidate_of functional entry)) (same-identifier entry.0.unit unit same))
          ∙ sym (ap (λ b. if b then Some (first_of (lookup (is_same unit) old.entries) (candidate_of functional entry)) else lookup
          (is_same unit) old.entries) same)
      at false apart =
          ap (λ b. if b then Some first else lookup (is_same unit) old.entries) apart
          ∙ sym (ap (λ b. if b then Some (first_of (lookup (is_same unit) old.entries) (candidate_of functional entry)) else lookup
          (is_same unit) old.entries) apart)

  -- where one stands already, there is a first one
  some-stays : (unit : Id) (best : Candidate) (entries : List (IdPair × ℕ)) → (c : Candidate) × (first_among functional unit (Some best) entries ≡ Some c)
  unfolding first_among
  some-stays unit best [] = (best, refl)
  some-stays unit best (entry ∷ rest) =
      either (is_same entry.0.unit unit) (some-stays unit (first_of (Some best) (candidate_of functional entry)) rest) (some-stays unit best rest)
    where
      either : (b : Bool) → (c : Candidate) × (first_among functional unit (Some (first_of (Some best) (candidate_of functional entry))) rest ≡ Some c)
          → (c : Candidate) × (first_among functional unit (Some best) rest ≡ Some c)
          → (c : Candidate) × (first_among functional unit (if b then Some (first_of (Some best) (candidate_of functional entry)) else Some best) rest ≡ Some c)
      either true now old = now
      either false now old = old

  -- where some entry is of the unit, there is a first one
  pub has-first : (unit : Id) (best : Option Candidate) (entries : List (IdPair × ℕ)) (i : ℕ) (entry : IdPair × ℕ)
      → slice_get entries i ≡ Some entry
      → is_same entry.0.unit unit ≡ true → (c : Candidate) × (first_among functional unit best entries ≡ Some c)
  unfolding first_among
  has-first unit best [] i entry is same = absurd (cc is)
  has-first unit best (first ∷ rest) zero entry is same =
      let some = some-stays unit (first_of best (candidate_of functional first)) rest in
      let here : first ≡ entry = cc is in (
        some.0,
        ap (λ b. first_among functional unit (if b then Some (first_of best (candidate_of functional first)) else best) rest) (ap (λ
            (e : IdPair × ℕ). is_same e.0.unit unit) here ∙ same) ∙ some.1,
      )
  has-first unit best (first ∷ rest) (suc i) entry is same =
      has-first unit (if is_same first.0.unit unit then Some (first_of best (candidate_of functional first)) else best) rest i entry is same

  -- the place of an entry that gave the first candidate
  pub record IsFrom (unit : Id) (entries : List (IdPair × ℕ)) (c : Candidate) : Type 0 where
    pub place : ℕ
    pub entry : IdPair × ℕ
    pub stands : slice_get entries place ≡ Some entry
    pub of_unit : is_same entry.0.unit unit ≡ true
    pub is : candidate_of functional entry ≡ c

  pub record IsFirstAmong (unit : Id) (best : Option Candidate) (entries : List (IdPair × ℕ)) (c : Candidate) : Type 0 where
    pub from : (best ≡ Some c) ⊎ IsFrom unit entries c
    pub best_behind : (b : Candidate) → best ≡ Some b → is_lt (candidate_order b c) ≡ false
    pub behind : (i : ℕ) (entry : IdPair × ℕ) → slice_get entries i ≡ Some entry → is_same entry.0.unit unit ≡ true
        → is_lt (candidate_order (candidate_of functional entry) c) ≡ false

  not-before-itself : (c : Candidate) → is_lt (candidate_order c c) ≡ false
  not-before-itself c = by (is_lt (candidate_order c c)) refl
    where
      by : (b : Bool) → is_lt (candidate_order c c) ≡ b → b ≡ false
      by true is = sym is ∙ (candidates-ranked.one_way) c c is
      by false is = refl

  -- what stands before, of two
  module _ (best later : Candidate) where
    later-behind : is_lt (candidate_order later (first_of (Some best) later)) ≡ false
    later-behind = by (is_lt (candidate_order later best)) refl
      where
        by : (b : Bool) → is_lt (candidate_order later best) ≡ b → is_lt (candidate_order later (if b then later else best)) ≡ false
        by true is = not-before-itself later
        by false is = is

    best-behind : is_lt (candidate_order best (first_of (Some best) later)) ≡ false
    best-behind = by (is_lt (candidate_order later best)) refl
      where
        by : (b : Bool) → is_lt (candidate_order later best) ≡ b → is_lt (candidate_order best (if b then later else best)) ≡ false
        by true is = (candidates-ranked.one_way) later best is
        by false is = not-before-itself best

    one-of-two : (c : Candidate) → first_of (Some best) later ≡ c → (best ≡ c) ⊎ (later ≡ c)
    one-of-two c is = by (is_lt (candidate_order later best)) is
      where
        by : (b : Bool) → (if b then later else best) ≡ c → (best ≡ c) ⊎ (later ≡ c)
        by true here = inr here
        by false here = inl here

  now-behind : (best : Option Candidate) (later : Candidate) → is_lt (candidate_order later (first_of best later)) ≡ false
  now-behind None later = not-before-itself later
  now-behind (Some best) later = later-behind best later

  old-behind : (best : Option Candidate) (later b : Candidate) → best ≡ Some b → is_lt (candidate_order b (first_of best later)) ≡ false
  old-behind None later b is = absurd (cc is)
  old-behind (Some best) later b is = subst (λ (c : Candidate). is_lt (candidate_order c (first_of (Some best) later)) ≡ false) (some-is best b is)
      (best-behind best later)
    where
      some-is : (x y : Candidate) → Some x ≡ Some y → x ≡ y
      some-is x y same = cc same

  further : (unit : Id) (first : IdPair × ℕ) (rest : List (IdPair × ℕ)) (c : Candidate) → IsFrom unit rest c → IsFrom unit (first ∷ rest) c
  further unit first rest c from = record { place = suc from.place; entry = from.entry; stands = from.stands; of_unit = from.of_unit; is = from.is }

  -- with an entry of the unit in front
  module _ (unit : Id) (best : Option Candidate) (first : IdPair × ℕ) (rest : List (IdPair × ℕ)) (c : Candidate) where
    of-unit : is_same first.0.unit unit ≡ true → IsFirstAmong unit (Some (first_of best (candidate_of functional first))) rest c
        → IsFirstAmong unit best (first ∷ rest) c
    of-unit same later = record {
      from = elim later.from [
        | inl now ↦ from-two best (some-is _ _ now)
        | inr place ↦ inr (further unit first rest c place)
      ];
      best_behind = λ b is. (candidates-ranked.chain) b (first_of best (candidate_of functional first)) c (old-behind best (candidate_of functional first) b is)
          (later.best_behind (first_of best (candidate_of functional first)) refl);
      behind = at;
    }
      where
        some-is : (x y : Candidate) → Some x ≡ Some y → x ≡ y
        some-is x y is = cc is

        here : candidate_of functional first ≡ c → IsFrom unit (first ∷ rest) c
        here is = record { place = zero; entry = first; stands = refl; of_unit = same; is = is }

        from-two : (o : Option Candidate) → first_of o (candidate_of functional first) ≡ c → (o ≡ Some c) ⊎ IsFrom unit (first ∷ rest) c
        from-two None is = inr (here is)
        from-two (Some b) is = elim (one-of-two b (candidate_of functional first) c is) [ inl old ↦ inl (ap Some old) | inr new ↦ inr (here new) ]

        at : (i : ℕ) (entry : IdPair × ℕ) → slice_get (first ∷ rest) i ≡ Some entry → is_same entry.0.unit unit ≡ true
            → is_lt (candidate_order (candidate_of functional entry) c) ≡ false
        at zero entry is of =
            let here : first ≡ entry = cc is in
            subst (λ (e : IdPair × ℕ). is_lt (candidate_order (candidate_of functional e) c) ≡ false) here
            ((candidates-ranked.chain) (candidate_of functional first) (first_of best (candidate_of functional first)) c (now-behind best (candidate_of functional first))
            (later.best_behind (first_of best (candidate_of functional first)) refl))
        at (suc i) entry is of = later.behind i entry is of

    of-another : is_same first.0.unit unit ≡ false → IsFirstAmong unit best rest c → IsFirstAmong unit best (first ∷ rest) c
    of-another apart later = record {
      from = elim later.from [ inl old ↦ inl old | inr place ↦ inr (further unit first rest c place) ];
      best_behind = later.best_behind;
      behind = at;
    }
      where
        at : (i : ℕ) (entry : IdPair × ℕ) → slice_get (first ∷ rest) i ≡ Some entry → is_same entry.0.unit unit ≡ true
            → is_lt (candidate_order (candidate_of functional entry) c) ≡ false
        at zero entry is of =
            let here : first ≡ entry = cc is in
            absurd (cc (sym (ap (λ (e : IdPair × ℕ). is_same e.0.unit unit) here ∙ of) ∙ apart))
        at (suc i) entry is of = later.behind i entry is of

  pub is-first : (unit : Id) (best : Option Candidate) (entries : List (IdPair × ℕ)) (c : Candidate) → first_among functional unit best entries ≡ Some c
      → IsFirstAmong unit best entries c
  unfolding first_among
  is-first unit best [] c is = record {
    from = inl is;
    best_behind = λ b here. subst (λ (x : Candidate). is_lt (candidate_order x c) ≡ false) (some-is c b (sym is ∙ here)) (not-before-itself c);
    behind = λ i entry none of. absurd (cc none);
  }
    where
      some-is : (x y : Candidate) → Some x ≡ Some y → x ≡ y
      some-is x y same = cc same
  is-first unit best (first ∷ rest) c is =
      by (is_same first.0.unit unit) refl (is-first unit (if is_same first.0.unit unit then Some (first_of best
      (candidate_of functional first)) else best) rest c is)
    where
      by : (b : Bool) → is_same first.0.unit unit ≡ b
          → IsFirstAmong unit (if is_same first.0.unit unit then Some (first_of best (candidate_of functional first)) else best) rest c
          → IsFirstAmong unit best (first ∷ rest) c
      by true same found =
          of-unit unit best first rest c same
          (subst (λ b. IsFirstAmong unit (if b then Some (first_of best (candidate_of functional first)) else best) rest c) same found)
      by false apart found =
          of-another unit best first rest c apart
          (subst (λ b. IsFirstAmong unit (if b then Some (first_of best (candidate_of functional first)) else best) rest c) apart found)
