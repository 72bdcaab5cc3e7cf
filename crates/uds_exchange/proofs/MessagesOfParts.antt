-- The messages of a meaning in order, part by part: those before the first request, and then each request with its
-- answer and its strays.
use Rattle.std.proofs.Common.{◌≡◌, ℕ, List, [], ◌∷◌, ◌++◌, map, Option, Some, None, refl, ◌∙◌, ap}
use Rattle.std.specs.List.{flat_map}
use Rattle.std.proofs.lemmas.Grind.{flat_map-append}
use Rattle.direction.specs.Dir.{Message}
use Rattle.direction.specs.declared.Dir.TheVariants.{Tester, Unit}
use Rattle.uds_exchange.specs.Meaning.{before_requests, Part, parts, answer, strays_in, ItemValue, exchange, stray_of, items_of}
use Rattle.uds_exchange.specs.Meaning.{meaning, messages_of, flattened}

pub flattened-strays : (xs : List Message) → flattened (map stray_of xs) ≡ xs
flattened-strays [] = refl
flattened-strays (x ∷ xs) = ap (λ l. x ∷ l) (flattened-strays xs)

-- one more item of one message
pub flattened-push : (its : List ItemValue) (it : ItemValue) (x : Message) → messages_of it ≡ x ∷ []
    → flattened (its ++ it ∷ []) ≡ flattened its ++ x ∷ []
flattened-push its it x h = flat_map-append messages_of its (it ∷ []) ∙ ap (λ l. flattened its ++ (l ++ [])) h

-- a request's answer and the messages left of its part
unfoldable pub kept : Option (List ℕ) → List Message → List Message
kept None o = o
kept (Some a) o = (Unit, a) ∷ o

-- what stays after the request of a part
abbrev pub stays : Part → List Message
stays p = kept (answer p.request p.behind) (strays_in p.request p.behind)

flattened-exchange : (r : List ℕ) (a : Option (List ℕ)) (o : List Message) → flattened (exchange r a ∷ map stray_of o) ≡ (Tester, r) ∷ kept a o
unfolding kept
flattened-exchange r None o = ap (λ l. (Tester, r) ∷ l) (flattened-strays o)
flattened-exchange r (Some a) o = ap (λ l. (Tester, r) ∷ (Unit, a) ∷ l) (flattened-strays o)

-- the messages of a part are its request and what stays after it
pub flattened-part : (p : Part) (ps : List Part)
    → flattened (flat_map items_of (p ∷ ps)) ≡ (Tester, p.request) ∷ (stays p ++ flattened (flat_map items_of ps))
flattened-part p ps =
    flat_map-append messages_of (items_of p) (flat_map items_of ps)
    ∙ ap (λ l. l ++ flattened (flat_map items_of ps))
    (flattened-exchange p.request (answer p.request p.behind) (strays_in p.request p.behind))

pub flattened-meaning : (M : List Message) → flattened (meaning M) ≡ before_requests M ++ flattened (flat_map items_of (parts M))
flattened-meaning M =
    flat_map-append messages_of (map stray_of (before_requests M)) (flat_map items_of (parts M))
    ∙ ap (λ l. l ++ flattened (flat_map items_of (parts M))) (flattened-strays (before_requests M))
