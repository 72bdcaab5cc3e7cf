-- Whoever an answer is credited to is the identifier of the last frame that asks for the service, and has no answer of
-- it yet.
use Rattle.std.proofs.Common.{◌≡◌, ℕ, Bool, true, false, List, [], ◌∷◌, ◌++◌, Option, Some, None, refl, sym, ◌∙◌, ap, subst, inl, inr, ◌⊎◌}
use Rattle.std.proofs.Common.{append_assoc, arith}
use Rattle.std.proofs.lemmas.Bool.{and_from, eqb-true}
use Rattle.std.proofs.lemmas.List.{append-nil}
use Rattle.std.proofs.lemmas.List.Folds.{list_any-append}
use Rattle.std.specs.List.{after_last, filter, last_or, list_any}
use Rattle.std.specs.Prelude.{◌||◌, ◌==◌, if◌then◌else◌}
use Rattle.can_log.specs.Frame.{FrameValue}
use Rattle.can_log.specs.declared.frame.Id.{Id}
use Rattle.uds_find.specs.Credit.{answers_from, asks_for, credit_of_mention, credited_to, has_answered, is_answer_of, is_asking_of, is_same}
use Rattle.uds_find.specs.Credit.{last_asker, sender_of}
use Rattle.uds_find.specs.Laws.{AsksLast, CreditIsAsked, SecondAnswerHasNoCredit}
use Rattle.uds_find.specs.Mention.{mention_of}
use Rattle.uds_find.specs.declared.mention.Mention.{Mention}
use Rattle.uds_find.specs.declared.mention.Mention.TheVariants.{Asks, Answers}
use Rattle.uds_find.specs.declared.pair.IdPair.{IdPair}
use Rattle.uds_find.proofs.Askers.{after_last-more, after_last-passing}
use Rattle.uds_find.proofs.Orders.{identifier-itself}

-- ---- what stands behind the last that passes

any-parts : (a b : Bool) → (a || b) ≡ false → (a ≡ false) × (b ≡ false)
any-parts true b is = absurd (cc is)
any-parts false b is = (refl, is)

behind-all : {X : Type 0} (p : X → Bool) (xs since : List X) → list_any p since ≡ false → after_last p (xs ++ since) ≡ after_last p xs ++ since
behind-all p xs [] none = ap (after_last p) (append-nil xs) ∙ sym (append-nil (after_last p xs))
behind-all p xs (y ∷ ys) none =
    let parts = any-parts (p y) (list_any p ys) none in
    ap (after_last p) (sym (append_assoc xs (y ∷ []) ys)) ∙ behind-all p (xs ++ y ∷ []) ys parts.1
    ∙ ap (λ l. l ++ ys) (after_last-more p xs y parts.0) ∙ append_assoc (after_last p xs) (y ∷ []) ys

behind-last : {X : Type 0} (p : X → Bool) (earlier : List X) (x : X) (since : List X) → p x ≡ true → list_any p since ≡ false
    → after_last p (earlier ++ x ∷ since) ≡ since
behind-last p earlier x since passes none =
    ap (after_last p) (sym (append_assoc earlier (x ∷ []) since)) ∙ behind-all p (earlier ++ x ∷ []) since none
    ∙ ap (λ l. l ++ since) (after_last-passing p earlier x passes)

-- ---- the last that asks

-- what a frame says that asks for the service
asks-it : (service : ℕ) (said : Option Mention) → is_asking_of service said ≡ true → said ≡ Some (Asks service)
asks-it service None of = absurd (cc of)
asks-it service (Some (Asks other)) of = ap (λ n. Some (Asks n)) (eqb-true other service of)
asks-it service (Some (Answers other)) of = absurd (cc of)

-- The last asking, with the frames since then.
record IsLastAsking (past : List FrameValue) (service : ℕ) (asker : Id) : Type 0 where
  earlier : List FrameValue
  asking : FrameValue
  since : List FrameValue
  place : past ≡ earlier ++ asking ∷ since
  asks : asks_for service asking ≡ true
  sent : asking.id ≡ asker
  is_last : list_any (asks_for service) since ≡ false

-- the frames have such a last one, or none of them asks
abbrev AskedOr : ℕ → Option FrameValue → List FrameValue → Id → Type 0
AskedOr service before past asker = IsLastAsking past service asker ⊎ ((sender_of before ≡ Some asker) × (list_any (asks_for service) past ≡ false))

behind : (service : ℕ) (asker : Id) (frame : FrameValue) (rest : List FrameValue) → IsLastAsking rest service asker
    → IsLastAsking (frame ∷ rest) service asker
behind service asker frame rest last = record {
  earlier = frame ∷ last.earlier;
  asking = last.asking;
  since = last.since;
  place = ap (λ l. frame ∷ l) last.place;
  asks = last.asks;
  sent = last.sent;
  is_last = last.is_last;
}

-- with one more frame in front
by-first : (service : ℕ) (before : Option FrameValue) (frame : FrameValue) (rest : List FrameValue) (asker : Id) (b : Bool)
    → asks_for service frame ≡ b
    → ((now : Option FrameValue) → sender_of (last_or now (filter (asks_for service) rest)) ≡ Some asker → AskedOr service now rest asker)
    → sender_of (last_or before (if b then frame ∷ filter (asks_for service) rest else filter (asks_for service) rest)) ≡ Some asker
    → AskedOr service before (frame ∷ rest) asker
by-first service before frame rest asker true asks later last =
    elim (later (Some frame) last) [
      | inl found ↦ inl (behind service asker frame rest found)
      | inr here ↦ inl (record { earlier = []; asking = frame; since = rest; place = refl; asks = asks; sent = cc (here.0); is_last = here.1 })
    ]
by-first service before frame rest asker false silent later last =
    elim (later before last) [
      | inl found ↦ inl (behind service asker frame rest found)
      | inr here ↦ inr (here.0, ap (λ b. b || list_any (asks_for service) rest) silent ∙ here.1)
    ]

asked-last : (service : ℕ) (before : Option FrameValue) (past : List FrameValue) (asker : Id)
    → sender_of (last_or before (filter (asks_for service) past)) ≡ Some asker → AskedOr service before past asker
asked-last service before [] asker last = inr (last, refl)
asked-last service before (frame ∷ rest) asker last =
    by-first service before frame rest asker (asks_for service frame) refl (λ now is. asked-last service now rest asker is) last

last-asking : (service : ℕ) (past : List FrameValue) (asker : Id) → last_asker service past ≡ Some asker → IsLastAsking past service asker
unfolding last_asker
last-asking service past asker last = elim (asked-last service None past asker last) [ inl found ↦ found | inr none ↦ absurd (cc (none.0)) ]

asks-last : (service : ℕ) (past : List FrameValue) (asker unit : Id) → last_asker service past ≡ Some asker → has_answered service unit past ≡ false
    → AsksLast past service asker unit
unfolding has_answered
asks-last service past asker unit last unanswered =
    let found = last-asking service past asker last in record {
      earlier = found.earlier;
      asking = found.asking;
      since = found.since;
      place = found.place;
      asks = asks-it service (mention_of found.asking) found.asks;
      sent = found.sent;
      is_last = found.is_last;
      is_unanswered =
          ap (list_any (answers_from service unit))
          (sym (ap (after_last (asks_for service)) found.place
          ∙ behind-last (asks_for service) found.earlier found.asking found.since found.asks found.is_last)) ∙ unanswered;
    }

-- ---- credits

-- the asker, and the identifier of the answer
pair-of : (asker : Option Id) (unit : Id) (answered : Bool) (pair : IdPair) → credited_to asker unit answered ≡ Some pair
    → (asker ≡ Some pair.tester) × (pair.unit ≡ unit) × (answered ≡ false) × (is_same pair.tester pair.unit ≡ false)
pair-of None unit answered pair credited = absurd (cc credited)
pair-of (Some tester) unit answered pair credited = by (is_same tester unit) answered refl refl credited
  where
    by : (same was : Bool) → is_same tester unit ≡ same → answered ≡ was
        → (if same || was then None else Some (record { tester = tester; unit = unit })) ≡ Some pair
        → (Some tester ≡ Some pair.tester) × (pair.unit ≡ unit) × (answered ≡ false) × (is_same pair.tester pair.unit ≡ false)
    by true was same already to = absurd (cc to)
    by false true apart already to = absurd (cc to)
    by false false apart already to =
        let is : record { tester = tester; unit = unit } ≡ pair = cc to in (
          ap (λ (p : IdPair). Some p.tester) is,
          sym (ap (λ (p : IdPair). p.unit) is),
          already,
          subst (λ (p : IdPair). is_same p.tester p.unit ≡ false) is apart,
        )

credited-by : (past : List FrameValue) (said : Option Mention) (unit : Id) (pair : IdPair) → credit_of_mention past said unit ≡ Some pair
    → (service : ℕ) × (said ≡ Some (Answers service)) × (pair.unit ≡ unit) × AsksLast past service pair.tester pair.unit ×
    (is_same pair.tester pair.unit ≡ false)
credited-by past None unit pair credited = absurd (cc credited)
credited-by past (Some (Asks service)) unit pair credited = absurd (cc credited)
credited-by past (Some (Answers service)) unit pair credited =
    let parts = pair-of (last_asker service past) unit (has_answered service unit past) pair credited in (
      service,
      refl,
      parts.1,
      asks-last service past pair.tester pair.unit parts.0 (ap (λ name. has_answered service name past) parts.1 ∙ parts.2),
      parts.3,
    )

pub credit_is_asked : CreditIsAsked
credit_is_asked past frame pair credited = credited-by past (mention_of frame) frame.id pair credited

-- ---- a second answer

not-twice : (who : Option Id) (unit : Id) → credited_to who unit true ≡ None
not-twice None unit = refl
not-twice (Some tester) unit = by (is_same tester unit)
  where
    pair : IdPair
    pair = record { tester = tester; unit = unit }

    by : (b : Bool) → (if b || true then None else Some pair) ≡ None
    by true = refl
    by false = refl

answered-once : (service : ℕ) (unit : Id) (past since : List FrameValue) (answer : FrameValue) → asks_for service answer ≡ false
    → answers_from service unit answer ≡ true → list_any (asks_for service) since ≡ false → has_answered service unit (past ++ answer ∷ since) ≡ true
unfolding has_answered
answered-once service unit past since answer silent answers none =
    ap (list_any (answers_from service unit)) (behind-all (asks_for service) past (answer ∷ since) (ap (λ b. b || list_any
    (asks_for service) since) silent ∙ none))
    ∙ list_any-append (answers_from service unit) (after_last (asks_for service) past) (answer ∷ since)
    ∙ ap (λ b. list_any (answers_from service unit) (after_last (asks_for service) past) || (b || list_any (answers_from service unit) since)) answers
    ∙ or-true (list_any (answers_from service unit) (after_last (asks_for service) past))
  where
    or-true : (b : Bool) → (b || true) ≡ true
    or-true true = refl
    or-true false = refl

pub second_answer_has_no_credit : SecondAnswerHasNoCredit
second_answer_has_no_credit past since answer again service said said_again same none =
    let has = answered-once service again.id past since answer (ap (is_asking_of service) said) (and_from _ _ (ap (is_answer_of service) said
    ∙ itself service)
    (ap (λ name. is_same name again.id) (sym same) ∙ identifier-itself again.id)) none in
    ap (λ m. credit_of_mention (past ++ answer ∷ since) m again.id) said_again
    ∙ ap (credited_to (last_asker service (past ++ answer ∷ since)) again.id) has
    ∙ not-twice (last_asker service (past ++ answer ∷ since)) again.id
  where
    itself : (n : ℕ) → (n == n) ≡ true
    itself n = grind arith
