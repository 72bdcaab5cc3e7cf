-- The lines of what was counted are those of the definitions.
use Rattle.std.proofs.Common.{◌≡◌, ℕ, zero, suc, ◌<◌, ◌==◌, Bool, true, false, List, [], ◌∷◌, Option, Some, None, length, map, refl, sym, ◌∙◌, ap}
use Rattle.std.proofs.Common.{subst, arith, inl, inr}
use Rattle.std.proofs.lemmas.Bool.{eqb-true}
use Rattle.std.proofs.lemmas.List.Elements.{All-map}
use Rattle.std.proofs.lemmas.List.Sums.{count_by-le-length}
use Rattle.std.proofs.lemmas.Map.Entries.{lookup_from_place, place_from_lookup}
use Rattle.std.specs.List.{IsDistinct, slice_get}
use Rattle.std.specs.List.Sorted.{IsPermutation, IsSorted}
use Rattle.std.specs.Map.{keys_of, lookup}
use Rattle.std.specs.Option.{option_map, unwrap_or}
use Rattle.std.specs.Ordering.{is_lt}
use Rattle.std.specs.Prelude.{if◌then◌else◌, ◌||◌, slice_index_or, All}
use Rattle.can_log.specs.Frame.{FrameValue}
use Rattle.can_log.specs.declared.frame.Id.{Id}
use Rattle.uds_find.specs.Asking.{request_count}
use Rattle.uds_find.specs.Credit.{HasCredit, credit_count, credits, is_same, is_same_pair}
use Rattle.uds_find.specs.Finding.{AreCreditLines, FoundUnit, IsFoundUnit, IsTally, TellsFunctional, counted, credit_line, has_unit, id_text}
use Rattle.uds_find.specs.Finding.{line_order}
use Rattle.uds_find.specs.Functional.{is_functional}
use Rattle.uds_find.specs.proving.Steps.{candidate_of, credits_in, first_among, line_in, pair_of, requests_in, tester_beside, unit_in}
use Rattle.uds_find.specs.Tester.{IsFirst, IsTesterBeside, IsUnitWithTester, asking_partner, candidate, candidate_order, partner_of}
use Rattle.uds_find.specs.declared.candidate.Candidate.{Candidate}
use Rattle.uds_find.specs.declared.pair.CreditLine.{CreditLine}
use Rattle.uds_find.specs.declared.pair.IdPair.{IdPair}
use Rattle.uds_find.proofs.Firsts.{IsFirstAmong, IsFrom, has-first, is-first}
use Rattle.uds_find.proofs.Orders.{ids-equal, one-pair, pairs-equal, same-identifier}
use Rattle.uds_find.proofs.Tallies.{from-counted}
use Rattle.uds_find.proofs.Thirds.{third-stands}

mapped-twice : {A B C : Type 0} (f : B → C) (g : A → B) (xs : List A) → map f (map g xs) ≡ map (λ x. f (g x)) xs
mapped-twice f g [] = refl
mapped-twice f g (x ∷ xs) = ap (λ l. f (g x) ∷ l) (mapped-twice f g xs)

got : {X : Type 0} (xs : List X) (k : ℕ) (d : X) → k < length xs → slice_get xs k ≡ Some (slice_index_or xs k d)
got [] k d below = absurd (omega (arith, below))
got (x ∷ xs) zero d below = refl
got (x ∷ xs) (suc k) d below = got xs k d (omega (arith, below))

-- a number that isn't 0 is found
counted-some : (count : ℕ) → 0 < count → counted count ≡ Some count
counted-some count above = by (count == 0) refl
  where
    by : (b : Bool) → (count == 0) ≡ b → counted count ≡ Some count
    by true none = absurd (omega (arith, above, eqb-true count 0 none))
    by false some = ap (λ b. if b then None else Some count) some

pub some-from : (n count : ℕ) → Some n ≡ counted count → (n ≡ count) × (0 < count)
some-from n count some = by (count == 0) refl
  where
    by : (b : Bool) → (count == 0) ≡ b → (n ≡ count) × (0 < count)
    by true none = absurd (cc (some ∙ ap (λ b. if b then None else Some count) none))
    by false found =
        let is : Some n ≡ Some count = some ∙ ap (λ b. if b then None else Some count) found in
        let above : 0 < count = not-zero count found in
        (cc is, above)
      where
        not-zero : (k : ℕ) → (k == 0) ≡ false → 0 < k
        not-zero zero is = absurd (cc is)
        not-zero (suc k) is = omega arith

counted-has : (frames : List FrameValue) (pair : IdPair) → 0 < credit_count frames pair → HasCredit frames
unfolding credit_count
counted-has frames pair above = omega (arith, above, count_by-le-length (λ credited. is_same_pair credited pair) (credits frames))

module _ (frames : List FrameValue) (table : List (IdPair × ℕ)) (requests : List (Id × ℕ)) (functional : List Id)
    (credited : IsTally is_same_pair (credit_count frames) table) (requested : IsTally is_same (request_count frames) requests)
    (told : TellsFunctional frames functional) where
  credits-are : (pair : IdPair) → credits_in table pair ≡ credit_count frames pair
  credits-are pair = ap (λ o. unwrap_or o 0) (credited.counts pair) ∙ from-counted (credit_count frames pair)

  requests-are : (name : Id) → requests_in requests name ≡ request_count frames name
  requests-are name = ap (λ o. unwrap_or o 0) (requested.counts name) ∙ from-counted (request_count frames name)

  line-is : (found : FoundUnit) → line_in table requests found ≡ credit_line frames found
  line-is found = λ i. record {
    credits = credits-are found.pair i;
    requests = requests-are found.pair.tester i;
    tester = id_text found.pair.tester;
    unit = id_text found.pair.unit;
    functional = option_map id_text found.functional;
  }

  -- ---- entries of the table

  entry-counts : (i : ℕ) (entry : IdPair × ℕ) → slice_get table i ≡ Some entry
      → (entry.1 ≡ credit_count frames entry.0) × (0 < credit_count frames entry.0)
  entry-counts i entry is =
      some-from entry.1 (credit_count frames entry.0)
      (sym (lookup_from_place pairs-equal table i entry.0 entry.1 credited.once is) ∙ credited.counts entry.0)

  -- the entry of a pair with credits
  entry-of : (pair : IdPair) → 0 < credit_count frames pair → (i : ℕ) × (slice_get table i ≡ Some (pair, credit_count frames pair))
  entry-of pair above =
      let place = place_from_lookup (is_same_pair pair) table (credit_count frames pair)
      (credited.counts pair ∙ counted-some (credit_count frames pair) above) in
      (place.0, place.2 ∙ ap (λ (p : IdPair). Some (p, credit_count frames pair)) (sym (one-pair pair place.1 place.3)))

  module _ (unit : Id) (c : Candidate) (found : first_among functional unit None table ≡ Some c) where
    first-of-unit : IsFirstAmong functional unit None table c
    first-of-unit = is-first functional unit None table c found

    from-entry : IsFrom functional unit table c
    from-entry = elim first-of-unit.from [ inl none ↦ absurd (cc none) | inr from ↦ from ]

    its-pair : from-entry.entry.0 ≡ record { tester = c.tester; unit = unit }
    its-pair = λ i. record {
      tester = ap (λ (x : Candidate). x.tester) from-entry.is i;
      unit = same-identifier from-entry.entry.0.unit unit from-entry.of_unit i;
    }

    first-counts : (c.credits ≡ credit_count frames (record { tester = c.tester; unit = unit })) × (0 < credit_count frames
        (record { tester = c.tester; unit = unit }))
    first-counts =
        let counts = entry-counts from-entry.place from-entry.entry from-entry.stands in (
          sym (ap (λ (x : Candidate). x.credits) from-entry.is) ∙ counts.0 ∙ ap (credit_count frames) its-pair,
          subst (λ (p : IdPair). 0 < credit_count frames p) its-pair counts.1,
        )

    its-functional : c.functional ≡ is_functional frames c.tester
    its-functional =
        sym (ap (λ (x : Candidate). x.functional) from-entry.is) ∙ told.each from-entry.entry.0.tester
        ∙ ap (is_functional frames) (ap (λ (x : Candidate). x.tester) from-entry.is)

    is-candidate : c ≡ candidate frames unit c.tester
    is-candidate = λ i. record { tester = c.tester; credits = first-counts.0 i; functional = its-functional i }

    told-of : (other : Id) → candidate_of functional
        (record { tester = other; unit = unit }, credit_count frames (record { tester = other; unit = unit })) ≡ candidate frames unit other
    told-of other = λ i. record {
      tester = other;
      credits = credit_count frames (record { tester = other; unit = unit });
      functional = told.each other i;
    }

    first-stands : IsFirst frames (record { tester = c.tester; unit = unit })
    first-stands = record {
      credited = first-counts.1;
      first = λ other above.
          let place = entry-of (record { tester = other; unit = unit }) above in
          subst (λ (x : Candidate). is_lt (candidate_order (candidate frames unit other) x) ≡ false) is-candidate
          (subst (λ (x : Candidate). is_lt (candidate_order x c) ≡ false) (told-of other)
          (first-of-unit.behind place.0 (record { tester = other; unit = unit }, credit_count frames (record { tester = other; unit = unit }))
          place.1 ((ids-equal.refl) unit)));
    }

    tester-stands : IsUnitWithTester frames (pair_of requests (unit, c))
    tester-stands = record { someone = c.tester; credited = first-counts.1; tester = by (partner_of unit) }
      where
        by : (partner : Option Id)
            → IsTesterBeside (asking_partner frames partner) frames (record { tester = tester_beside requests partner c.tester; unit = unit })
        by None = first-stands
        by (Some partner) = at (request_count frames partner == 0) refl
          where
            at : (b : Bool) → (request_count frames partner == 0) ≡ b
                → IsTesterBeside (if request_count frames partner == 0 then None else Some partner) frames
                (record { tester = if requests_in requests partner == 0 then c.tester else partner; unit = unit })
            at true silent =
                subst (λ b. IsTesterBeside (if b then None else Some partner) frames
                (record { tester = if requests_in requests partner == 0 then c.tester else partner; unit = unit })) (sym silent)
                (subst (λ b. IsFirst frames (record { tester = if b then c.tester else partner; unit = unit }))
                (sym (ap (λ n. n == 0) (requests-are partner) ∙ silent)) first-stands)
            at false asks =
                subst (λ b. IsTesterBeside (if b then None else Some partner) frames
                (record { tester = if requests_in requests partner == 0 then c.tester else partner; unit = unit })) (sym asks)
                (ap (λ b. if b then c.tester else partner) (ap (λ n. n == 0) (requests-are partner) ∙ asks))

  module _ (candidates : List (Id × Candidate)) (each : (unit : Id) → lookup (is_same unit) candidates ≡ first_among functional unit None table)
      (once : IsDistinct is_same (keys_of candidates)) where
    -- a unit that is found has a line
    has-line : (unit : Id) (c : Candidate) (es : List (Id × Candidate)) → lookup (is_same unit) es ≡ Some c
        → has_unit (map (unit_in requests functional) es) unit ≡ true
    has-line unit c [] is = absurd (cc is)
    has-line unit c (entry ∷ es) is = by (is_same unit entry.0) refl is (λ found. has-line unit c es found)
      where
        either : (b : Bool) → (b || true) ≡ true
        either true = refl
        either false = refl

        by : (b : Bool) → is_same unit entry.0 ≡ b → (if b then Some entry.1 else lookup (is_same unit) es) ≡ Some c
            → (lookup (is_same unit) es ≡ Some c → has_unit (map (unit_in requests functional) es) unit ≡ true)
            → (is_same entry.0 unit || has_unit (map (unit_in requests functional) es) unit) ≡ true
        by true same found later = ap (λ b. b || has_unit (map (unit_in requests functional) es) unit) ((ids-equal.symm) entry.0 unit ∙ same)
        by false apart found later = ap (λ b. is_same entry.0 unit || b) (later found) ∙ either (is_same entry.0 unit)

    every-unit : (pair : IdPair) → 0 < credit_count frames pair → has_unit (map (unit_in requests functional) candidates) pair.unit ≡ true
    every-unit pair above =
        let place = entry-of pair above in
        let first = has-first functional pair.unit None table place.0 (pair, credit_count frames pair) place.1 ((ids-equal.refl) pair.unit) in
        has-line pair.unit first.0 candidates (each pair.unit ∙ first.1)

    lines-are : map (λ entry. line_in table requests (unit_in requests functional entry)) candidates
        ≡ map (credit_line frames) (map (unit_in requests functional) candidates)
    lines-are =
        (λ i. map (λ entry. line-is (unit_in requests functional entry) i) candidates)
        ∙ sym (mapped-twice (credit_line frames) (unit_in requests functional) candidates)

    all-found : All (IsFoundUnit frames) (map (unit_in requests functional) candidates)
    all-found = All-map (IsFoundUnit frames) (unit_in requests functional) candidates (λ k d below.
        let entry = slice_index_or candidates k d in
        let is = lookup_from_place ids-equal candidates k entry.0 entry.1 once (got candidates k d below) in
        record {
          tester = tester-stands entry.0 entry.1 (sym (each entry.0) ∙ is);
          functional = third-stands frames functional told (pair_of requests entry);
        })

    pub credit-lines : (made lines : List CreditLine) → made ≡ map (λ entry. line_in table requests (unit_in requests functional entry)) candidates
        → IsPermutation made lines → IsSorted line_order lines → AreCreditLines frames lines
    credit-lines made lines is permuted sorted = record {
      units = map (unit_in requests functional) candidates;
      found = all-found;
      once = subst (IsDistinct is_same) (sym (mapped-twice (λ (found : FoundUnit). found.pair.unit) (unit_in requests functional) candidates)) once;
      every = every-unit;
      each = subst (λ l. IsPermutation l lines) (is ∙ lines-are) permuted;
      sorted = sorted;
    }

    -- a candidate has credits
    pub some-line : 0 < length candidates → HasCredit frames
    some-line some = by candidates refl some
      where
        by : (es : List (Id × Candidate)) → candidates ≡ es → 0 < length es → HasCredit frames
        by [] is above = absurd (omega (arith, above))
        by (entry ∷ es) is above =
            let here : slice_get candidates 0 ≡ Some entry = ap (λ l. slice_get l 0) is in
            let found = lookup_from_place ids-equal candidates 0 entry.0 entry.1 once here in
            counted-has frames (record { tester = entry.1.tester; unit = entry.0 })
            ((first-counts entry.0 entry.1 (sym (each entry.0) ∙ found)).1)
