-- Which units and services have a place after one more frame.
use Rattle.std.proofs.Common.{◌≡◌, ℕ, ◌==◌, Bool, true, false, List, [], ◌∷◌, ◌++◌, Some, None, refl, sym, ◌∙◌}
use Rattle.std.proofs.Common.{ap}
use Rattle.std.specs.Map.{lookup}
use Rattle.std.specs.Option.{is_some}
use Rattle.std.specs.Prelude.{if◌then◌else◌, ◌||◌, ◌&&◌}
use Rattle.can_log.specs.Frame.{FrameValue}
use Rattle.can_log.specs.declared.frame.Id.{Id}
use Rattle.uds_find.specs.Credit.{answers_from, credit}
use Rattle.uds_find.specs.Credit.{has_credited, is_answer_of, is_credited_answer, is_same}
use Rattle.uds_find.specs.Finding.{HasPlaces}
use Rattle.uds_find.specs.Finding.{is_same_unit_service}
use Rattle.uds_find.specs.proving.Steps.{HasOnePlace}
use Rattle.uds_find.specs.Mention.{mention_of}
use Rattle.uds_find.specs.declared.mention.Mention.TheVariants.{Answers}
use Rattle.uds_find.specs.declared.pair.IdPair.{IdPair}
use Rattle.uds_find.specs.declared.pair.UnitService.{UnitService}
use Rattle.uds_find.proofs.Counting.{credited-more}

module _ (frames : List FrameValue) (frame : FrameValue) where
  -- no credited answer
  pub places-kept : (table : List (UnitService × ℕ)) → ((service : ℕ) (unit : Id) → is_credited_answer service unit frames frame ≡ false)
      → HasPlaces frames table → HasPlaces (frames ++ frame ∷ []) table
  places-kept table none places = λ key.
      places key
      ∙ sym (credited-more key.service key.unit [] frames frame
      ∙ ap (λ b. has_credited key.service key.unit frames || b) (none key.service key.unit)
      ∙ or-false (has_credited key.service key.unit frames))
    where
      or-false : (b : Bool) → (b || false) ≡ b
      or-false true = refl
      or-false false = refl

  -- a frame that is credited to nobody
  pub uncredited : credit frames frame ≡ None → (service : ℕ) (unit : Id) → is_credited_answer service unit frames frame ≡ false
  uncredited none service unit = ap (λ o. answers_from service unit frame && is_some o) none ∙ and-false (answers_from service unit frame)
    where
      and-false : (b : Bool) → (b && false) ≡ false
      and-false true = refl
      and-false false = refl

  module _ (service : ℕ) (said : mention_of frame ≡ Some (Answers service)) where
    -- an answer that is credited
    pub places-more : (pair : IdPair) (old new : List (UnitService × ℕ)) → credit frames frame ≡ Some pair
        → HasOnePlace (record { unit = frame.id; service = service }) old new → HasPlaces frames old → HasPlaces (frames ++ frame ∷ []) new
    places-more pair old new some one places = λ key.
        one key ∙ at key (is_same_unit_service (record { unit = frame.id; service = service }) key) refl
        ∙ sym (credited-more key.service key.unit [] frames frame
        ∙ ap (λ b. has_credited key.service key.unit frames || b) (answers key))
      where
        -- it is one of this unit and service
        answers : (key : UnitService) → is_credited_answer key.service key.unit frames frame
            ≡ is_same_unit_service (record { unit = frame.id; service = service }) key
        answers key =
            ap (λ o. answers_from key.service key.unit frame && is_some o) some
            ∙ ap (λ m. (is_answer_of key.service m && is_same frame.id key.unit) && true) said
            ∙ turned (service == key.service) (is_same frame.id key.unit)
          where
            turned : (a b : Bool) → ((a && b) && true) ≡ (b && a)
            turned true true = refl
            turned true false = refl
            turned false true = refl
            turned false false = refl

        at : (key : UnitService) (b : Bool) → is_same_unit_service (record { unit = frame.id; service = service }) key ≡ b
            → (if is_same_unit_service (record { unit = frame.id; service = service }) key then true
            else is_some (lookup (is_same_unit_service key) old))
            ≡ (has_credited key.service key.unit frames || is_same_unit_service (record { unit = frame.id; service = service }) key)
        at key true here =
            ap (λ b. if b then true else is_some (lookup (is_same_unit_service key) old)) here
            ∙ sym (ap (λ b. has_credited key.service key.unit frames || b) here ∙ or-true (has_credited key.service key.unit frames))
          where
            or-true : (b : Bool) → (b || true) ≡ true
            or-true true = refl
            or-true false = refl
        at key false apart =
            ap (λ b. if b then true else is_some (lookup (is_same_unit_service key) old)) apart
            ∙ places key
            ∙ sym (ap (λ b. has_credited key.service key.unit frames || b) apart ∙ or-false (has_credited key.service key.unit frames))
          where
            or-false : (b : Bool) → (b || false) ≡ b
            or-false true = refl
            or-false false = refl
