-- Which asking each unit answered last, after one more frame.
use Rattle.std.proofs.Common.{◌≡◌, ℕ, ◌+◌, ◌≤◌, ◌==◌, Bool, true, false, List, [], ◌∷◌, ◌++◌, Some, None, refl, sym, ◌∙◌, ap}
use Rattle.std.proofs.Common.{arith}
use Rattle.std.proofs.lemmas.Bool.{and_from, and_parts, eqb-true}
use Rattle.std.specs.List.{count_by}
use Rattle.std.specs.Prelude.{if◌then◌else◌, ◌||◌, ◌&&◌}
use Rattle.can_log.specs.Frame.{FrameValue}
use Rattle.can_log.specs.declared.frame.Id.{Id}
use Rattle.uds_find.specs.Credit.{answers_from, asks_for, credited_to, has_answered, is_answer_of, is_asking_of, is_same, last_asker}
use Rattle.uds_find.specs.Finding.{TellsAnswered, is_same_unit_service}
use Rattle.uds_find.specs.Mention.{mention_of}
use Rattle.uds_find.specs.declared.mention.Mention.TheVariants.{Asks, Answers}
use Rattle.uds_find.specs.declared.pair.UnitService.{UnitService}
use Rattle.uds_find.proofs.Askers.{asker-kept, askings-asked, askings-kept, answered-asked, answered-more}
use Rattle.uds_find.proofs.Orders.{one-unit-service}
use lib.Dec.{eqb}

or-false : (b : Bool) → (b || false) ≡ b
or-false true = refl
or-false false = refl

or-true : (b : Bool) → (b || true) ≡ true
or-true true = refl
or-true false = refl

same-number : (n : ℕ) → (n == n) ≡ true
same-number n = grind arith

other-number : (n m : ℕ) → n ≤ m → (n == m + 1) ≡ false
other-number n m few = by (n == m + 1) refl
  where
    by : (b : Bool) → (n == m + 1) ≡ b → b ≡ false
    by true is = absurd (omega (arith, few, eqb-true n (m + 1) is))
    by false is = refl

module _ (frames : List FrameValue) (frame : FrameValue) (answered : UnitService → ℕ) (tells : TellsAnswered frames answered) where
  -- at a service that the frame doesn't ask for
  earlier-kept : (key : UnitService) → asks_for key.service frame ≡ false → answered key ≤ count_by (asks_for key.service) (frames ++ frame ∷ [])
  earlier-kept key silent = omega (arith, askings-kept key.service frames frame silent, tells.earlier key)

  -- and this unit doesn't answer
  each-kept : (key : UnitService) (tester : Id) → asks_for key.service frame ≡ false → answers_from key.service key.unit frame ≡ false
      → last_asker key.service (frames ++ frame ∷ []) ≡ Some tester → is_same tester key.unit ≡ false
      → (answered key == count_by (asks_for key.service) (frames ++ frame ∷ [])) ≡ has_answered key.service key.unit (frames ++ frame ∷ [])
  each-kept key tester silent other last apart =
      ap (λ n. answered key == n) (askings-kept key.service frames frame silent)
      ∙ tells.each key tester (sym (asker-kept key.service frames frame silent) ∙ last) apart
      ∙ sym (answered-more key.service key.unit frames frame silent ∙ ap (λ b. has_answered key.service key.unit frames || b) other
      ∙ or-false (has_answered key.service key.unit frames))

  -- a frame that says nothing
  pub answered-silent : mention_of frame ≡ None → TellsAnswered (frames ++ frame ∷ []) answered
  answered-silent none = record {
    earlier = λ key. earlier-kept key (ap (is_asking_of key.service) none);
    each = λ key tester. each-kept key tester (ap (is_asking_of key.service) none) (ap
        (λ said. is_answer_of key.service said && is_same frame.id key.unit) none);
  }

  -- a frame that asks for a service
  pub answered-after-asking : (service : ℕ) → mention_of frame ≡ Some (Asks service) → TellsAnswered (frames ++ frame ∷ []) answered
  answered-after-asking service said = record {
    earlier = λ key. earlier-at key (service == key.service) refl;
    each = λ key tester. each-at key tester (service == key.service) refl;
  }
    where
      earlier-at : (key : UnitService) (b : Bool) → (service == key.service) ≡ b
          → answered key ≤ count_by (asks_for key.service) (frames ++ frame ∷ [])
      earlier-at key true here =
          omega (arith, askings-asked key.service frames frame (ap (is_asking_of key.service) said ∙ here), tells.earlier key)
      earlier-at key false apart = earlier-kept key (ap (is_asking_of key.service) said ∙ apart)

      each-at : (key : UnitService) (tester : Id) (b : Bool) → (service == key.service) ≡ b
          → last_asker key.service (frames ++ frame ∷ []) ≡ Some tester → is_same tester key.unit ≡ false
          → (answered key == count_by (asks_for key.service) (frames ++ frame ∷ [])) ≡ has_answered key.service key.unit (frames ++ frame ∷ [])
      each-at key tester true here last other =
          let asked = ap (is_asking_of key.service) said ∙ here in
          ap (λ n. answered key == n) (askings-asked key.service frames frame asked)
          ∙ other-number (answered key) (count_by (asks_for key.service) frames) (tells.earlier key)
          ∙ sym (answered-asked key.service key.unit frames frame asked)
      each-at key tester false apart last other =
          each-kept key tester (ap (is_asking_of key.service) said
          ∙ apart) (ap (λ m. is_answer_of key.service m && is_same frame.id key.unit) said) last other

  module _ (service : ℕ) (said : mention_of frame ≡ Some (Answers service)) where
    silent-for : (other : ℕ) → asks_for other frame ≡ false
    silent-for other = ap (is_asking_of other) said

    answers-as : (key : UnitService) → answers_from key.service key.unit frame ≡ ((service == key.service) && is_same frame.id key.unit)
    answers-as key = ap (λ m. is_answer_of key.service m && is_same frame.id key.unit) said

    key-of-answer : (key : UnitService) → ((service == key.service) && is_same frame.id key.unit) ≡ true
        → record { unit = frame.id; service = service } ≡ key
    key-of-answer key is =
        let parts = and_parts (service == key.service) (is_same frame.id key.unit) is in
        one-unit-service (record { unit = frame.id; service = service }) key (and_from _ _ parts.1 parts.0)

    -- an answer that is credited to nobody
    pub answered-uncredited : credited_to (last_asker service frames) frame.id (has_answered service frame.id frames) ≡ None
        → TellsAnswered (frames ++ frame ∷ []) answered
    answered-uncredited none = record {
      earlier = λ key. earlier-kept key (silent-for key.service);
      each = λ key tester. each-at key tester _ refl;
    }
      where
        already : (tester unit : Id) (has : Bool) → is_same tester unit ≡ false → credited_to (Some tester) unit has ≡ None → has ≡ true
        already tester unit true apart uncredited = refl
        already tester unit false apart uncredited =
            absurd (cc (sym (ap (λ b. if b || false then None else Some (record { tester = tester; unit = unit })) apart) ∙ uncredited))

        at-answer : (key : UnitService) (tester : Id) → record { unit = frame.id; service = service } ≡ key
            → last_asker key.service frames ≡ Some tester
            → is_same tester key.unit ≡ false → has_answered key.service key.unit frames ≡ true
        at-answer key tester is last apart =
            already tester key.unit (has_answered key.service key.unit frames) apart
            (ap (λ who. credited_to who key.unit (has_answered key.service key.unit frames)) (sym last)
            ∙ ap (λ (k : UnitService). credited_to (last_asker k.service frames) k.unit (has_answered k.service k.unit frames)) (sym is) ∙ none)

        each-at : (key : UnitService) (tester : Id) (b : Bool) → ((service == key.service) && is_same frame.id key.unit) ≡ b
            → last_asker key.service (frames ++ frame ∷ []) ≡ Some tester → is_same tester key.unit ≡ false
            → (answered key == count_by (asks_for key.service) (frames ++ frame ∷ [])) ≡ has_answered key.service key.unit (frames ++ frame ∷ [])
        each-at key tester true here last apart =
            let before = sym (asker-kept key.service frames frame (silent-for key.service)) ∙ last in
            let has = at-answer key tester (key-of-answer key here) before apart in
            ap (λ n. answered key == n) (askings-kept key.service frames frame (silent-for key.service))
            ∙ tells.each key tester before apart ∙ has
            ∙ sym (answered-more key.service key.unit frames frame (silent-for key.service)
            ∙ ap (λ b. b || answers_from key.service key.unit frame) has)
        each-at key tester false other last apart = each-kept key tester (silent-for key.service) (answers-as key ∙ other) last apart

    -- an answer that is credited: it has answered the last asking
    pub answered-credited : (now : UnitService → ℕ) (asking : ℕ) → asking ≡ count_by (asks_for service) frames
        → ((key : UnitService)
        → now key ≡ (if is_same_unit_service (record { unit = frame.id; service = service }) key then asking else answered key))
        → TellsAnswered (frames ++ frame ∷ []) now
    answered-credited now asking is written = record {
      earlier = λ key. earlier-at key _ refl;
      each = λ key tester. each-at key tester _ refl;
    }
      where
        written-here : (key : UnitService) → is_same_unit_service (record { unit = frame.id; service = service }) key ≡ true
            → now key ≡ count_by (asks_for key.service) (frames ++ frame ∷ [])
        written-here key here =
            written key ∙ ap (λ b. if b then asking else answered key) here ∙ is
            ∙ ap (λ (k : UnitService). count_by (asks_for k.service) frames) (one-unit-service
            (record { unit = frame.id; service = service }) key here)
            ∙ sym (askings-kept key.service frames frame (silent-for key.service))

        earlier-at : (key : UnitService) (b : Bool) → is_same_unit_service (record { unit = frame.id; service = service }) key ≡ b
            → now key ≤ count_by (asks_for key.service) (frames ++ frame ∷ [])
        earlier-at key true here = omega (arith, written-here key here)
        earlier-at key false other =
            omega (arith, written key ∙ ap (λ b. if b then asking else answered key) other, earlier-kept key (silent-for key.service))

        each-at : (key : UnitService) (tester : Id) (b : Bool) → is_same_unit_service (record { unit = frame.id; service = service }) key ≡ b
            → last_asker key.service (frames ++ frame ∷ []) ≡ Some tester → is_same tester key.unit ≡ false
            → (now key == count_by (asks_for key.service) (frames ++ frame ∷ [])) ≡ has_answered key.service key.unit (frames ++ frame ∷ [])
        each-at key tester true here last apart =
            let parts = and_parts (is_same frame.id key.unit) (eqb service key.service) here in
            ap (λ n. n == count_by (asks_for key.service) (frames ++ frame ∷ [])) (written-here key here)
            ∙ same-number (count_by (asks_for key.service) (frames ++ frame ∷ []))
            ∙ sym (answered-more key.service key.unit frames frame (silent-for key.service)
            ∙ ap (λ b. has_answered key.service key.unit frames || b) (answers-as key ∙ and_from _ _ parts.1 parts.0)
            ∙ or-true (has_answered key.service key.unit frames))
        each-at key tester false other last apart =
            ap (λ n. n == count_by (asks_for key.service) (frames ++ frame ∷ [])) (written key ∙ ap (λ b. if b then asking else answered key) other)
            ∙ each-kept key tester (silent-for key.service) (answers-as key
            ∙ swapped (eqb service key.service) (is_same frame.id key.unit) other) last apart
          where
            swapped : (a b : Bool) → (b && a) ≡ false → (a && b) ≡ false
            swapped true true both = both
            swapped true false both = refl
            swapped false b both = refl
