-- The messages of a meaning and the removed ones are as many as the list's.
use Rattle.std.proofs.Common.{◌≡◌, ℕ, ◌+◌, List, [], ◌∷◌, length, Option, Some, None, arith, inl, inr, length-append, ◌++◌}
use Rattle.std.specs.List.{flat_map}
use Rattle.std.proofs.lemmas.Bool.{cases_Bool}
use Rattle.direction.specs.Dir.{Message}
use Rattle.uds_exchange.specs.Meaning.{is_tester_request, is_answer_to, is_pending_reply_to, before_requests, Part, parts}
use Rattle.uds_exchange.specs.Meaning.{answer, strays_in, removed, removed_of, removed_messages, items_of, meaning, flattened}
use Rattle.uds_exchange.specs.Order.{held, early}
use Rattle.uds_exchange.proofs.MessagesOfParts.{kept, stays, flattened-part, flattened-meaning}
use Rattle.uds_exchange.proofs.EarlyOfMore.{early_then_held}

-- one more stray is one more message that stays
kept-length : (a : Option (List ℕ)) (x : Message) (o : List Message) → length (kept a (x ∷ o)) ≡ length (kept a o) + 1
unfolding kept
kept-length None x o = omega arith
kept-length (Some a) x o = omega arith

-- of the messages after a request each stays or is removed
whole : (r : List ℕ) (xs : List Message) → length (kept (answer r xs) (strays_in r xs)) + length (removed r xs) ≡ length xs
unfolding kept
whole r [] = omega arith
whole r (x ∷ xs) =
    elim (cases_Bool (is_answer_to r x)) [
      | inl e ↦ rw e (omega arith)
      | inr e ↦ elim (cases_Bool (is_pending_reply_to r x)) [
        | inl q ↦ rw (e, q) (omega (arith, whole r xs))
        | inr q ↦ rw (e, q) (omega (arith, whole r xs, kept-length (answer r xs) x (strays_in r xs)))
      ]
    ]

-- how many messages the parts have
size : List Part → ℕ
size [] = 0
size (p ∷ ps) = 1 + length p.behind + size ps

parts-size : (M : List Message) → length (before_requests M) + size (parts M) ≡ length M
unfolding size
parts-size [] = omega arith
parts-size (x ∷ xs) =
    elim (cases_Bool (is_tester_request x)) [
      | inl e ↦ rw e (omega (arith, parts-size xs))
      | inr e ↦ rw e (omega (arith, parts-size xs))
    ]

items-size : (ps : List Part) → length (flattened (flat_map items_of ps)) + length (flat_map removed_of ps) ≡ size ps
unfolding size
items-size [] = omega arith
items-size (p ∷ ps) =
    let tail = flattened (flat_map items_of ps) in
    rw flattened-part (omega (
      arith,
      length-append (stays p) tail,
      length-append (removed_of p) (flat_map removed_of ps),
      whole p.request p.behind,
      items-size ps,
    ))

-- no message of a list is lost: each is one of its meaning, or removed
pub none_is_lost : (M : List Message) → length (flattened (meaning M)) + length (removed_messages M) ≡ length M
none_is_lost M =
    let tail = flattened (flat_map items_of (parts M)) in
    rw flattened-meaning (omega (arith, length-append (before_requests M) tail, items-size (parts M), parts-size M))

-- nor is one lost where they are put in order
pub none_is_lost_in_order : (M : List Message) → length (early M ++ held M) + length (removed_messages M) ≡ length M
none_is_lost_in_order M = rw early_then_held (none_is_lost M)
