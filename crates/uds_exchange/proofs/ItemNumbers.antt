-- The number that is judged of a message is the place of its item in the meaning, whatever follows.
use Prim.Native.Nat.{zero, suc}
use Rattle.std.proofs.Common.{◌≡◌, ℕ, ◌+◌, List, [], ◌∷◌, ◌++◌, length, map, option_map, Option, Some, None, arith, refl, ap}
use Rattle.std.proofs.Common.{sym, subst, ◌∙◌, inl, inr, append-nil, append_assoc, length-append}
use Rattle.std.specs.Prelude.{slice_get, slice_set}
use Rattle.std.proofs.lemmas.Bool.{cases_Bool}
use Rattle.std.proofs.lemmas.List.{length-map}
use Rattle.std.proofs.lemmas.Option.{same_Some}
use Rattle.direction.specs.Dir.{Message}
use Rattle.uds_message.specs.Message.{sid}
use Rattle.uds_exchange.specs.Decided.{decided, decided_in, exchange_items}
use Rattle.uds_exchange.specs.Judging.{number_after, number_by, open_number, step_after}
use Rattle.uds_exchange.specs.Meaning.{ItemValue, exchange, stray, stray_of, is_tester_request, is_answer_to, is_pending_reply_to, meaning}
use Rattle.uds_exchange.specs.OneMessage.{step_if_open}
use Rattle.uds_exchange.specs.proving.OpenExchange.{one_later, open_exchange_in}
use Rattle.uds_exchange.specs.Order.{has_exchange, held, open_request, open_request_in}
use Rattle.uds_exchange.specs.declared.step.Step.{Step}
use Rattle.uds_exchange.specs.declared.step.Step.TheVariants as becomes
use Rattle.uds_exchange.specs.proving.Pairing.{items_with_other}
use Rattle.uds_exchange.specs.Numbers.{HasItem, HasRoleInItem, IsBegunBy}
use Rattle.uds_exchange.specs.proving.Becoming.{Becomes, EachBecomes}
use Rattle.uds_exchange.proofs.DecidedOfMore.{decided_then_undecided}
use Rattle.uds_exchange.proofs.ListPlaces.{at-behind, at_front, set-there}
use Rattle.uds_exchange.proofs.MeaningOfMore.{meaning_goes_on}

-- Items with more messages: one without an answer may get one, and each other one stays.

item-as-it-is : (item : ItemValue) → Becomes item item
item-as-it-is (stray d bytes) = refl
item-as-it-is (exchange request (Some reply)) = refl
item-as-it-is (exchange request None) = (None, refl)

begun-of : (request : List ℕ) (reply : Option (List ℕ)) (later : ItemValue) → Becomes (exchange request reply) later → IsBegunBy request later
begun-of request (Some reply) later is = (Some reply, is)
begun-of request None later is = is

becomes-then : (item later last : ItemValue) → Becomes item later → Becomes later last → Becomes item last
becomes-then (stray d bytes) later last one other = subst (λ (it : ItemValue). Becomes it last) one other
becomes-then (exchange request (Some reply)) later last one other = subst (λ (it : ItemValue). Becomes it last) one other
becomes-then (exchange request None) later last one other =
    begun-of request one.0 last (subst (λ (it : ItemValue). Becomes it last) one.1 other)

each-stays : (items : List ItemValue) → EachBecomes items items
each-stays items place item is = (item, is, item-as-it-is item)

each-then : (items later last : List ItemValue) → EachBecomes items later → EachBecomes later last → EachBecomes items last
each-then items later last one other place item is =
    let now = one place item is in
    let then = other place now.0 now.1 in
    (then.0, then.1, becomes-then item now.0 then.0 now.2 then.2)

more-behind : (items more : List ItemValue) → EachBecomes items (items ++ more)
more-behind items more place item is = (item, at_front items more place item is, item-as-it-is item)

-- The item at a place gets its answer.

one-answered : (items : List ItemValue) (at : ℕ) (request reply : List ℕ) → slice_get items at ≡ Some (exchange request None)
    → EachBecomes items (slice_set items at (exchange request (Some reply)))
one-answered [] at request reply waits place item is = cc
one-answered (first ∷ items) zero request reply waits zero item is =
    let same : exchange request None ≡ item = same_Some _ _ (sym waits ∙ is) in
    (exchange request (Some reply), refl, subst (λ (it : ItemValue). Becomes it (exchange request (Some reply))) same (Some reply, refl))
one-answered (first ∷ items) zero request reply waits (suc place) item is = (item, is, item-as-it-is item)
one-answered (first ∷ items) (suc at) request reply waits zero item is = (item, is, item-as-it-is item)
one-answered (first ∷ items) (suc at) request reply waits (suc place) item is = one-answered items at request reply waits place item is

-- The exchange that waits stands behind the items that are decided.

abbrev opened : ℕ → Option (List ℕ) → Option (ℕ × List ℕ)
opened place None = None
opened place (Some request) = Some (place, request)

opened-later : (place : ℕ) (waits : Option (List ℕ)) → one_later (opened place waits) ≡ opened (suc place) waits
opened-later place None = refl
opened-later place (Some request) = refl

open-place : (items : List ItemValue) → open_exchange_in items ≡ opened (length (decided_in items)) (open_request_in items)
open-place [] = refl
open-place (stray d bytes ∷ later) = ap one_later (open-place later) ∙ opened-later (length (decided_in later)) (open_request_in later)
open-place (exchange request (Some reply) ∷ later) = ap one_later (open-place later)
    ∙ opened-later (length (decided_in later)) (open_request_in later)
open-place (exchange request None ∷ later) =
    elim (cases_Bool (has_exchange later)) [
      | inl e ↦ rw e (ap one_later (open-place later) ∙ opened-later (length (decided_in later)) (open_request_in later))
      | inr e ↦ rw e refl
    ]

module _ (M : List Message) (request : List ℕ) (waits : open_request M ≡ Some request) where
  parted : decided M ++ exchange request None ∷ map stray_of (held M) ≡ meaning M
  parted = ap (λ o. decided M ++ exchange_items o None (held M)) (sym waits) ∙ decided_then_undecided M

  -- the open exchange has the number of the place behind the decided items
  pub open_number_is_its_place : open_number M ≡ length (decided M) + 1
  open_number_is_its_place =
      let count = ap length parted in
      let both = length-append (decided M) (exchange request None ∷ map stray_of (held M)) in
      let strays = length-map (held M) stray_of in
      omega arith

  -- and stands there
  pub open_exchange_stands : slice_get (meaning M) (length (decided M)) ≡ Some (exchange request None)
  open_exchange_stands =
      ap (λ items. slice_get items (length (decided M))) (sym parted) ∙ at-behind (decided M) (map stray_of (held M)) (exchange request None)

-- One more message.

module _ (M : List Message) (x : Message) where
  abbrev items : List ItemValue
  items = meaning M

  -- the items with it, where it is no request and this one waits
  abbrev items_then : Option (List ℕ) → List ItemValue
  items_then waits = items_with_other (opened (length (decided M)) waits) items x

  abbrev step_then : Option (List ℕ) → Step
  step_then waits = step_if_open (option_map sid waits) x

  abbrev HasIts : List ItemValue → Step → Type 0
  HasIts all step = HasItem all (number_by step M) (HasRoleInItem step x)

  stray-has : HasIts (items ++ stray_of x ∷ []) becomes.Pass
  stray-has = (length items, stray_of x, refl, at-behind items [] (stray_of x), refl)

  other-has : (waits : Option (List ℕ)) → open_request M ≡ waits → HasIts (items_then waits) (step_then waits)
  other-has None is = stray-has
  other-has (Some request) is =
      let number = open_number_is_its_place M request is in
      let there = open_exchange_stands M request is in
      elim (cases_Bool (is_answer_to request x)) [
        | inl e ↦ rw e (
          length (decided M),
          exchange request (Some x.1),
          number,
          set-there items (length (decided M)) (exchange request None)
              (exchange request (Some x.1)) there,
          (request, refl),
        )
        | inr e ↦ elim (cases_Bool (is_pending_reply_to request x)) [
          | inl p ↦ rw (e, p) (length (decided M), exchange request None, number, there, (request, (None, refl), p))
          | inr p ↦ rw (e, p) stray-has
        ]
      ]

  other-grows : (waits : Option (List ℕ)) → open_request M ≡ waits → EachBecomes items (items_then waits)
  other-grows None is = more-behind items (stray_of x ∷ [])
  other-grows (Some request) is =
      elim (cases_Bool (is_answer_to request x)) [
        | inl e ↦ rw e (one-answered items (length (decided M)) request x.1 (open_exchange_stands M request is))
        | inr e ↦ elim (cases_Bool (is_pending_reply_to request x)) [
          | inl p ↦ rw (e, p) (each-stays items)
          | inr p ↦ rw (e, p) (more-behind items (stray_of x ∷ []))
        ]
      ]

  -- the number that is judged of one more message is the place of its item
  pub number_is_its_place : HasIts (meaning (M ++ x ∷ [])) (step_after M x)
  number_is_its_place =
      subst (λ all. HasIts all (step_after M x)) (sym (meaning_goes_on M x)) (elim (cases_Bool (is_tester_request x)) [
        | inl e ↦ rw e (length items, exchange x.1 None, refl, at-behind items [] (exchange x.1 None), (None, refl))
        | inr e ↦ rw (e, open-place items) (other-has (open_request M) refl)
      ])

  -- each item stays with it, or gets its answer
  pub items_become : EachBecomes items (meaning (M ++ x ∷ []))
  items_become =
      subst (EachBecomes items) (sym (meaning_goes_on M x)) (elim (cases_Bool (is_tester_request x)) [
        | inl e ↦ rw e (more-behind items (exchange x.1 None ∷ []))
        | inr e ↦ rw (e, open-place items) (other-grows (open_request M) refl)
      ])

-- And all that follow.

all-grow : (M more : List Message) → EachBecomes (meaning M) (meaning (M ++ more))
all-grow M [] = subst (λ all. EachBecomes (meaning M) (meaning all)) (sym (append-nil M)) (each-stays (meaning M))
all-grow M (x ∷ more) =
    subst (λ all. EachBecomes (meaning M) (meaning all)) (append_assoc M (x ∷ []) more)
    (each-then (meaning M) (meaning (M ++ x ∷ [])) (meaning ((M ++ x ∷ []) ++ more)) (items_become M x) (all-grow (M ++ x ∷ []) more))

-- What holds of an item whatever it becomes holds of it then.

-- what holds of an item, whatever it becomes, holds of it then
pub item_stays : (Holds : ItemValue → Type 0) → ((item now : ItemValue) → Becomes item now → Holds item → Holds now)
    → (all later : List ItemValue) → EachBecomes all later → (number : ℕ) → HasItem all number Holds → HasItem later number Holds
item_stays Holds stays all later become number has =
    let now = become has.0 has.1 has.3 in
    (has.0, now.0, has.2, now.1, stays has.1 now.0 now.2 has.4)

-- what begins with a request does so whatever it becomes
pub begun_stays : (request : List ℕ) (item now : ItemValue) → Becomes item now → IsBegunBy request item → IsBegunBy request now
begun_stays request item now become is = begun-of request is.0 now (subst (λ (it : ItemValue). Becomes it now) is.1 become)

part-still : (step : Step) (sent : Message) (item now : ItemValue) → Becomes item now → HasRoleInItem step sent item → HasRoleInItem step sent now
part-still (becomes.Request service) sent item now become is = begun_stays sent.1 item now become is
part-still becomes.Answer sent item now become is = (is.0, subst (λ (it : ItemValue). Becomes it now) is.1 become)
part-still becomes.Removed sent item now become is = (is.0, begun_stays is.0 item now become is.1, is.2)
part-still becomes.Hold sent item now become is = subst (λ (it : ItemValue). Becomes it now) is become
part-still becomes.Pass sent item now become is = subst (λ (it : ItemValue). Becomes it now) is become

-- The number of a message stays, and its part in the item of that number.
pub number_stays_its_place : (M more : List Message) (x : Message) → HasItem (meaning (M ++ x ∷ more)) (number_after M x) (HasRoleInItem (step_after M x) x)
number_stays_its_place M more x =
    subst (λ all. HasItem (meaning all) (number_after M x) (HasRoleInItem (step_after M x) x)) (append_assoc M (x ∷ []) more)
    (item_stays (HasRoleInItem (step_after M x) x) (part-still (step_after M x) x) (meaning (M ++ x ∷ [])) (meaning ((M ++ x ∷ []) ++ more))
    (all-grow (M ++ x ∷ []) more) (number_after M x) (number_is_its_place M x))
