-- The set of functional identifiers, after one more frame.
use Rattle.std.proofs.Common.{◌≡◌, Bool, true, false, List, [], ◌∷◌, ◌++◌, refl, sym, ◌∙◌, ap, subst, is_eq, Ordering}
use Rattle.std.specs.BTreeSet.{BTreeSet, Updates, insert_key}
use Rattle.std.specs.List.{list_any}
use Rattle.std.specs.List.Sorted.{IsStrictlySortedBy}
use Rattle.std.specs.Ordering.{match_ordering}
use Rattle.std.specs.Bool.{OnFalse}
use Rattle.std.specs.Prelude.{cond, not, ◌||◌, ◌&&◌}
use Rattle.std.specs.Set.{remove_key}
use Rattle.std.specs.declared.cmp.Ordering.TheVariants.{Less, Equal, Greater}
use Rattle.can_log.specs.Frame.{FrameValue}
use Rattle.can_log.specs.declared.frame.Id.{Id}
use Rattle.can_log.specs.declared.frame.Id.TheVariants as id
use Rattle.uds_find.specs.Credit.{is_same}
use Rattle.uds_find.specs.Finding.{FinderValue, HasCounted, StandsAfter, TellsFunctional}
use Rattle.uds_find.specs.Functional.{is_functional_frame, number_order}
use Rattle.uds_find.specs.proving.Steps.{IsKeptMore, without_id}
use Rattle.uds_find.proofs.Counting.{functional-more}
use Rattle.uds_find.proofs.Orders.{id_order, identifier-itself, ids-equal, same-id}

-- the set has an identifier where the definition finds it
pub is-there : (one : Id) (ids : List Id) → list_any (λ other. is_eq (id_order one other)) ids ≡ list_any (is_same one) ids
is-there one ids = λ i. list_any (λ other. same-id one other i) ids

-- a frame that isn't functional
pub kept-none : (frame : FrameValue) (ids : List Id) → is_functional_frame frame ≡ false → IsKeptMore frame ids ids
kept-none frame ids none one = sym (ap (λ b. list_any (is_same one) ids || (b && is_same one frame.id)) none ∙ or-false (list_any (is_same one) ids))
  where
    or-false : (b : Bool) → (b || false) ≡ b
    or-false true = refl
    or-false false = refl

-- one that is
pub kept-one : (frame : FrameValue) (old new : BTreeSet Id) → is_functional_frame frame ≡ true → Updates id_order old new frame.id true
    → IsKeptMore frame old.keys new.keys
kept-one frame old new is updates one =
    sym (is-there one new.keys) ∙ updates.0 one
    ∙ ap (λ b. cond b true (list_any (λ other. is_eq (id_order one other)) old.keys)) (same-id frame.id one ∙ (ids-equal.symm) frame.id one)
    ∙ ap (λ b. cond (is_same one frame.id) true b) (is-there one old.keys)
    ∙ turned (is_same one frame.id) (list_any (is_same one) old.keys)
    ∙ sym (ap (λ b. list_any (is_same one) old.keys || (b && is_same one frame.id)) is)
  where
    turned : (a b : Bool) → cond a true b ≡ (b || a)
    turned true true = refl
    turned true false = refl
    turned false true = refl
    turned false false = refl

-- put in and taken out again, where it wasn't there
pub put-and-taken : (one : Id) (ids : List Id) → list_any (is_same one) ids ≡ false → remove_key (is_same one) (insert_key id_order ids one) ≡ ids
put-and-taken one [] absent = ap (λ b. cond b [] (one ∷ [])) (identifier-itself one)
put-and-taken one (first ∷ rest) absent = by (id_order one first) refl (is_same one first) refl absent (put-and-taken one rest)
  where
    by : (o : Ordering) → id_order one first ≡ o → (same : Bool) → is_same one first ≡ same → (same || list_any (is_same one) rest) ≡ false
        → (list_any (is_same one) rest ≡ false → remove_key (is_same one) (insert_key id_order rest one) ≡ rest)
        → remove_key (is_same one) (match_ordering o (one ∷ first ∷ rest) (first ∷ rest) (first ∷ insert_key id_order rest one)) ≡ first ∷ rest
    by o is true same none later = absurd (cc none)
    by Less is false apart none later = ap (λ b. cond b (first ∷ rest) (one ∷ remove_key (is_same one) (first ∷ rest))) (identifier-itself one)
    by Equal is false apart none later = absurd (cc (sym (ap is_eq is) ∙ same-id one first ∙ apart))
    by Greater is false apart none later =
        ap (λ b. cond b (insert_key id_order rest one) (first ∷ remove_key (is_same one) (insert_key id_order rest one))) apart
        ∙ ap (λ l. first ∷ l) (later none)

-- put in where it wasn't there, and taken out again where it was new
pub taken-again : (one : Id) (old new : List Id) (added : Bool) → added ≡ not (list_any (λ other. is_eq (id_order one other)) old)
    → new ≡ insert_key id_order old one → OnFalse added (new ≡ old) → without_id one added new ≡ old
taken-again one old new true is put unchanged =
    ap (remove_key (is_same one)) put
    ∙ put-and-taken one old (sym (is-there one old) ∙ absent (list_any (λ other. is_eq (id_order one other)) old) is)
  where
    absent : (b : Bool) → true ≡ not b → b ≡ false
    absent true is = absurd (cc is)
    absent false is = refl
taken-again one old new false is put unchanged = unchanged

-- ---- by their numbers

order-is : (one other : Id) → id_order one other ≡ number_order one other
order-is (id.Std a) (id.Std b) = refl
order-is (id.Ext a) (id.Ext b) = refl
order-is (id.Std a) (id.Ext b) = refl
order-is (id.Ext a) (id.Std b) = refl

pub by-number : (ids : List Id) → IsStrictlySortedBy id_order ids → IsStrictlySortedBy number_order ids
by-number ids sorted = subst (λ order. IsStrictlySortedBy order ids) (λ i one other. order-is one other i) sorted

-- ---- a frame whose identifier may be functional

module _ (frames : List FrameValue) (frame : FrameValue) where
  pub functional-told : (old new : List Id) → IsKeptMore frame old new → (IsStrictlySortedBy number_order old → IsStrictlySortedBy number_order new)
      → TellsFunctional frames old → TellsFunctional (frames ++ frame ∷ []) new
  functional-told old new kept sorted told = record {
    each = λ one.
        kept one ∙ ap (λ b. b || (is_functional_frame frame && is_same one frame.id)) (told.each one) ∙ sym (functional-more one frames frame);
    sorted = sorted told.sorted;
  }

  -- one more frame, whose identifier was kept before it was counted
  pub stands-more : (old new : FinderValue) (functional : List Id) → StandsAfter frames old → IsKeptMore frame old.functional functional
      → (IsStrictlySortedBy number_order old.functional → IsStrictlySortedBy number_order functional)
      → (HasCounted frames (record old { functional = functional }) → HasCounted (frames ++ frame ∷ []) new) → new.functional ≡ functional
      → StandsAfter (frames ++ frame ∷ []) new
  stands-more old new functional stands kept sorted counts is = record {
    counted = counts (record {
      askers = stands.counted.askers;
      askings = stands.counted.askings;
      answered = stands.counted.answered;
      places = stands.counted.places;
      credits = stands.counted.credits;
      requests = stands.counted.requests;
    });
    functional = subst (TellsFunctional (frames ++ frame ∷ [])) (sym is) (functional-told old.functional functional kept sorted stands.functional);
  }
