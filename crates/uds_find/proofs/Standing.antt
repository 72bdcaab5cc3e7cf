-- What a finder keeps after one more frame.
use Rattle.std.proofs.Common.{◌≡◌, ℕ, ◌+◌, ◌^◌, ◌<◌, ◌==◌, Bool, true, false, List, [], ◌∷◌, ◌++◌, Option, Some, None, length, refl, sym, ◌∙◌}
use Rattle.std.proofs.Common.{ap, subst, arith, inl, inr, ◌⊎◌}
use Rattle.std.proofs.lemmas.Bool.{eqb-true, eqb-false}
use Rattle.std.proofs.lemmas.List.{length-set, get_or-set_same, get_or-set_other}
use Rattle.std.proofs.lemmas.List.Sums.{count_by-le-length}
use Rattle.std.specs.List.{count_by}
use Rattle.std.specs.Option.{is_some, unwrap_or}
use Rattle.std.specs.Prelude.{slice_index, slice_index_or, slice_set, if◌then◌else◌, ◌||◌, ◌&&◌}
use Rattle.can_log.specs.Frame.{FrameValue}
use Rattle.can_log.specs.declared.frame.Id.{Id}
use Rattle.uds_find.specs.Asking.{asks, is_asking, request_count}
use Rattle.uds_find.specs.Credit.{answers_from, asks_for, credit, credit_of_mention, credit_count, credited_to, has_answered}
use Rattle.uds_find.specs.Credit.{is_answer_of, is_asking_of, is_credited_answer, is_same, is_same_pair, last_asker, IsFirstAnswer}
use Rattle.uds_find.specs.Credit.{IsFirstCredit}
use Rattle.uds_find.specs.Finding.{FinderValue, HasCounted, HasPlaces, IsTally, TellsAnswered, TellsAskers, TellsAskings}
use Rattle.uds_find.specs.Finding.{number_at, one_more}
use Rattle.uds_find.specs.proving.Steps.{IsAskedMore, IsCreditedMore, IsCreditedTo, IsNewIn}
use Rattle.uds_find.specs.Mention.{mention_of}
use Rattle.uds_find.specs.declared.mention.Mention.TheVariants.{Asks, Answers}
use Rattle.uds_find.specs.declared.pair.IdPair.{IdPair}
use Rattle.uds_find.proofs.Answered.{answered-after-asking, answered-credited, answered-silent, answered-uncredited}
use Rattle.uds_find.proofs.Askers.{asker-asked, asker-kept, askings-asked, askings-kept}
use Rattle.uds_find.proofs.Counting.{count-more, count-silent, few-counted, few-requests}
use Rattle.uds_find.proofs.Counting.{requests-more, requests-silent}
use Rattle.uds_find.proofs.Orders.{identifier-itself}
use Rattle.uds_find.proofs.Tallies.{from-counted, tally-same}
use Rattle.uds_find.proofs.Placing.{places-kept, places-more, uncredited}

module _ (frames : List FrameValue) (frame : FrameValue) where
  -- ---- a frame that doesn't ask

  askers-kept : (askers : List (Option Id)) → ((service : ℕ) → asks_for service frame ≡ false) → TellsAskers frames askers
      → TellsAskers (frames ++ frame ∷ []) askers
  askers-kept askers silent tells = record {
    places = tells.places;
    each = λ service below. tells.each service below ∙ sym (asker-kept service frames frame (silent service));
  }

  askings-still : (askings : List ℕ) → ((service : ℕ) → asks_for service frame ≡ false) → TellsAskings frames askings
      → TellsAskings (frames ++ frame ∷ []) askings
  askings-still askings silent tells = record {
    places = tells.places;
    each = λ service below. tells.each service below ∙ sym (askings-kept service frames frame (silent service));
  }

  credits-kept : (table : List (IdPair × ℕ)) → credit frames frame ≡ None → IsTally is_same_pair (credit_count frames) table
      → IsTally is_same_pair (credit_count (frames ++ frame ∷ [])) table
  credits-kept table none tally =
      tally-same is_same_pair (credit_count frames) (credit_count (frames ++ frame ∷ [])) table (λ pair. sym
      (count-silent pair frames frame none)) tally

  requests-kept : (table : List (Id × ℕ)) → asks frame ≡ false → IsTally is_same (request_count frames) table
      → IsTally is_same (request_count (frames ++ frame ∷ [])) table
  requests-kept table silent tally =
      tally-same is_same (request_count frames) (request_count (frames ++ frame ∷ [])) table (λ name. requests-silent name frames frame silent) tally

  -- a frame that says nothing
  pub stands-silent : (finder : FinderValue) → mention_of frame ≡ None → HasCounted frames finder → HasCounted (frames ++ frame ∷ []) finder
  stands-silent finder none stands = record {
    askers = askers-kept finder.askers (λ service. ap (is_asking_of service) none) stands.askers;
    askings = askings-still finder.askings (λ service. ap (is_asking_of service) none) stands.askings;
    answered = answered-silent frames frame (number_at finder.answered) stands.answered none;
    places = places-kept frames frame finder.answered (uncredited frames frame (ap (λ said. credit_of_mention frames said frame.id) none)) stands.places;
    credits = credits-kept finder.credits (ap (λ said. credit_of_mention frames said frame.id) none) stands.credits;
    requests = requests-kept finder.requests (ap is_asking none) stands.requests;
  }

  -- ---- a frame that asks for a service

  module _ (service : ℕ) (said : mention_of frame ≡ Some (Asks service)) (small : service < 256) where
    askers-asked : (askers : List (Option Id)) → TellsAskers frames askers
        → TellsAskers (frames ++ frame ∷ []) (slice_set askers service (Some frame.id))
    askers-asked askers tells = record {
      places = length-set askers service (Some frame.id) ∙ tells.places;
      each = λ other below. at other below (service == other) refl;
    }
      where
        at : (other : ℕ) → other < 256 → (b : Bool) → (service == other) ≡ b
            → slice_index_or (slice_set askers service (Some frame.id)) other None ≡ last_asker other (frames ++ frame ∷ [])
        at other below true same =
            ap (λ place. slice_index_or (slice_set askers service (Some frame.id)) place None) (sym (eqb-true service other same))
            ∙ get_or-set_same askers service (Some frame.id) None (omega (arith, tells.places, small))
            ∙ sym (asker-asked other frames frame (ap (is_asking_of other) said ∙ same))
        at other below false apart =
            get_or-set_other askers service other (Some frame.id) None (λ e. eqb-false service other apart (sym e))
            ∙ tells.each other below ∙ sym (asker-kept other frames frame (ap (is_asking_of other) said ∙ apart))

    askings-more : (askings : List ℕ) → TellsAskings frames askings
        → TellsAskings (frames ++ frame ∷ []) (slice_set askings service (slice_index askings service + 1))
    askings-more askings tells = record {
      places = length-set askings service (slice_index askings service + 1) ∙ tells.places;
      each = λ other below. at other below (service == other) refl;
    }
      where
        at : (other : ℕ) → other < 256 → (b : Bool) → (service == other) ≡ b
            → slice_index (slice_set askings service (slice_index askings service + 1)) other ≡ count_by (asks_for other) (frames ++ frame ∷ [])
        at other below true same =
            ap (λ place. slice_index (slice_set askings service (slice_index askings service + 1)) place) (sym (eqb-true service other same))
            ∙ get_or-set_same askings service (slice_index askings service + 1) 0 (omega (arith, tells.places, small))
            ∙ ap (λ n. n + 1) (ap (slice_index askings) (eqb-true service other same) ∙ tells.each other below)
            ∙ sym (askings-asked other frames frame (ap (is_asking_of other) said ∙ same))
        at other below false apart =
            get_or-set_other askings service other (slice_index askings service + 1) 0 (λ e. eqb-false service other apart (sym e))
            ∙ tells.each other below ∙ sym (askings-kept other frames frame (ap (is_asking_of other) said ∙ apart))

    pub stands-asked : (old new : FinderValue) → length frames < 2 ^ 62 → IsAskedMore service frame.id old new → HasCounted frames old
        → HasCounted (frames ++ frame ∷ []) new
    stands-asked old new few step stands = record {
      askers = subst (TellsAskers (frames ++ frame ∷ [])) (sym step.askers) (askers-asked old.askers stands.askers);
      askings =
          subst (TellsAskings (frames ++ frame ∷ []))
          (sym (step.askings (omega (arith, few, stands.askings.each service small, count_by-le-length (asks_for service) frames))))
          (askings-more old.askings stands.askings);
      answered =
          subst (λ t. TellsAnswered (frames ++ frame ∷ []) (number_at t)) (sym step.answered)
          (answered-after-asking frames frame (number_at old.answered) stands.answered service said);
      places =
          subst (HasPlaces (frames ++ frame ∷ [])) (sym step.answered)
          (places-kept frames frame old.answered (uncredited frames frame (ap (λ m. credit_of_mention frames m frame.id) said)) stands.places);
      credits =
          subst (IsTally is_same_pair (credit_count (frames ++ frame ∷ []))) (sym step.credits)
          (credits-kept old.credits (ap (λ m. credit_of_mention frames m frame.id) said) stands.credits);
      requests =
          tally-same is_same (one_more is_same frame.id (request_count frames)) (request_count (frames ++ frame ∷ [])) new.requests
          (λ name. requests-more name frames frame (ap is_asking said))
          (step.requests (request_count frames) (omega (arith, few, few-requests frame.id frames)) stands.requests);
    }

  -- ---- a frame that answers it

  module _ (service : ℕ) (said : mention_of frame ≡ Some (Answers service)) (small : service < 256) where
    -- the pair that it is credited to, by what is kept
    pub credit-kept : (finder : FinderValue) → HasCounted frames finder
        → credited_to (slice_index_or finder.askers service None) frame.id
        (number_at finder.answered (record { unit = frame.id; service = service }) == slice_index finder.askings service)
        ≡ credit frames frame
    credit-kept finder stands =
        ap (λ who. credited_to who frame.id
        (number_at finder.answered (record { unit = frame.id; service = service }) == slice_index finder.askings service))
        (stands.askers.each service small)
        ∙ by (last_asker service frames) refl
        ∙ sym (ap (λ m. credit_of_mention frames m frame.id) said)
      where
        is_answered : Bool
        is_answered = number_at finder.answered (record { unit = frame.id; service = service }) == slice_index finder.askings service

        for : (tester : Id) (b : Bool) → is_same tester frame.id ≡ b → last_asker service frames ≡ Some tester
            → credited_to (Some tester) frame.id is_answered ≡ credited_to (Some tester) frame.id (has_answered service frame.id frames)
        for tester true same last =
            ap (λ b. if b || is_answered then None else Some (record { tester = tester; unit = frame.id })) same
            ∙ sym (ap (λ b. if b || has_answered service frame.id frames then None else Some (record { tester = tester; unit = frame.id })) same)
        for tester false apart last =
            ap (credited_to (Some tester) frame.id)
            (ap (λ n. number_at finder.answered (record { unit = frame.id; service = service }) == n) (stands.askings.each service small)
            ∙ stands.answered.each (record { unit = frame.id; service = service }) tester last apart)

        by : (who : Option Id) → last_asker service frames ≡ who
            → credited_to who frame.id is_answered ≡ credited_to who frame.id (has_answered service frame.id frames)
        by None last = refl
        by (Some tester) last = for tester (is_same tester frame.id) refl last

    -- what is new of an answer that is credited: its pair, or its unit and service
    pub first-of-answer : (finder : FinderValue) (pair : IdPair) → HasCounted frames finder
        → credited_to (slice_index_or finder.askers service None) frame.id
        (number_at finder.answered (record { unit = frame.id; service = service }) == slice_index finder.askings service) ≡ Some pair
        → IsNewIn finder.answered finder.credits (record { unit = frame.id; service = service }) pair
        → IsFirstCredit frames frame ⊎ IsFirstAnswer frames frame
    first-of-answer finder pair stands to is_new = by is_new
      where
        some : credit frames frame ≡ Some pair
        some = sym (credit-kept finder stands) ∙ to

        is-credited : is_credited_answer service frame.id frames frame ≡ true
        is-credited =
            ap (λ o. answers_from service frame.id frame && is_some o) some
            ∙ ap (λ m. (is_answer_of service m && is_same frame.id frame.id) && true) said
            ∙ ap (λ b. (b && is_same frame.id frame.id) && true) (same-service service)
            ∙ ap (λ b. b && true) (identifier-itself frame.id)
          where
            same-service : (n : ℕ) → (n == n) ≡ true
            same-service n = grind arith

        by : IsNewIn finder.answered finder.credits (record { unit = frame.id; service = service }) pair
            → IsFirstCredit frames frame ⊎ IsFirstAnswer frames frame
        by (inl nowhere) = inr (service, is-credited, sym (stands.places (record { unit = frame.id; service = service })) ∙ nowhere)
        by (inr none) =
            inl (pair, some, sym (ap (λ o. unwrap_or o 0) (stands.credits.counts pair) ∙ from-counted (credit_count frames pair)) ∙ none)

    none-stands : (finder : FinderValue) → credit frames frame ≡ None → HasCounted frames finder → HasCounted (frames ++ frame ∷ []) finder
    none-stands finder none stands = record {
      askers = askers-kept finder.askers (λ other. ap (is_asking_of other) said) stands.askers;
      askings = askings-still finder.askings (λ other. ap (is_asking_of other) said) stands.askings;
      answered =
          answered-uncredited frames frame (number_at finder.answered) stands.answered service said
          (sym (ap (λ m. credit_of_mention frames m frame.id) said) ∙ none);
      places = places-kept frames frame finder.answered (uncredited frames frame none) stands.places;
      credits = credits-kept finder.credits none stands.credits;
      requests = requests-kept finder.requests (ap is_asking said) stands.requests;
    }

    some-stands : (pair : IdPair) (old new : FinderValue) → length frames < 2 ^ 62 → credit frames frame ≡ Some pair
        → IsCreditedMore service frame.id pair old new → HasCounted frames old → HasCounted (frames ++ frame ∷ []) new
    some-stands pair old new few some step stands = record {
      askers =
          subst (TellsAskers (frames ++ frame ∷ [])) (sym step.askers)
          (askers-kept old.askers (λ other. ap (is_asking_of other) said) stands.askers);
      askings =
          subst (TellsAskings (frames ++ frame ∷ [])) (sym step.askings)
          (askings-still old.askings (λ other. ap (is_asking_of other) said) stands.askings);
      answered =
          answered-credited frames frame (number_at old.answered) stands.answered service said (number_at new.answered)
          (slice_index old.askings service) (stands.askings.each service small) step.answered;
      places = places-more frames frame service said pair old.answered new.answered some step.places stands.places;
      credits =
          tally-same is_same_pair (one_more is_same_pair pair (credit_count frames)) (credit_count (frames ++ frame ∷ [])) new.credits
          (λ other. count-more other frames frame pair some)
          (step.credits (credit_count frames) (omega (arith, few, few-counted pair frames)) stands.credits);
      requests =
          subst (IsTally is_same (request_count (frames ++ frame ∷ []))) (sym step.requests)
          (requests-kept old.requests (ap is_asking said) stands.requests);
    }

    pub stands-answered : (old new : FinderValue) → length frames < 2 ^ 62
        → IsCreditedTo service frame.id (credited_to (slice_index_or old.askers service None) frame.id
        (number_at old.answered (record { unit = frame.id; service = service }) == slice_index old.askings service)) old new
        → HasCounted frames old → HasCounted (frames ++ frame ∷ []) new
    stands-answered old new few step stands = by (credit frames frame) refl (subst (λ to. IsCreditedTo service frame.id to old new)
        (credit-kept old stands) step)
      where
        by : (to : Option IdPair) → credit frames frame ≡ to → IsCreditedTo service frame.id to old new → HasCounted (frames ++ frame ∷ []) new
        by None none is = subst (HasCounted (frames ++ frame ∷ [])) (sym is) (none-stands old none stands)
        by (Some pair) some more = some-stands pair old new few some more stands
