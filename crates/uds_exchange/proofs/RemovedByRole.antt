-- What is removed of a list, by the roles of its messages.
use Rattle.std.proofs.Common.{◌≡◌, ℕ, true, false, List, [], ◌∷◌, ◌++◌, map, Option, Some, None, refl, sym, ◌∙◌, ap, inl, inr, append_assoc}
use Rattle.std.specs.List.{flat_map}
use Rattle.std.proofs.lemmas.List.{append-nil}
use Rattle.std.proofs.lemmas.Bool.{cases_Bool}
use Rattle.direction.specs.Dir.{Message}
use Rattle.uds_exchange.specs.Meaning.{is_tester_request, is_answer_to, is_pending_reply_to, before_requests, Part, parts, answer, strays_in}
use Rattle.uds_exchange.specs.Meaning.{removed, removed_of, removed_messages, ItemValue, exchange, stray_of, items_of, meaning}
use Rattle.uds_exchange.specs.Laws.{removed_with}
use Rattle.uds_exchange.specs.Roles.{those_removed}
use Rattle.uds_exchange.specs.Order.{has_exchange}
use Rattle.uds_exchange.specs.proving.OpenExchange.{open_exchange_in}
use Rattle.uds_exchange.proofs.OpenExchange.{request_of, same-request}
use Rattle.uds_exchange.proofs.MeaningOfMore.{grown, grows, no-strays, open_exchange-cons, has-behind, has-items, one-part}
use Rattle.uds_exchange.proofs.OneRole.{role_by, role_behind}

abbrev open_if : Option (List ℕ) → List ℕ → Option (List ℕ)
open_if None request = Some request
open_if (Some reply) request = None

-- the request of the last part, where that has no answer
abbrev open_in : List Part → Option (List ℕ)
open_in [] = None
open_in (p ∷ []) = open_if (answer p.request p.behind) p.request
open_in (p ∷ q ∷ ps) = open_in (q ∷ ps)

waits-behind : (A B : List ItemValue) → has_exchange B ≡ true → request_of (open_exchange_in (A ++ B)) ≡ request_of (open_exchange_in B)
waits-behind [] B h = refl
waits-behind (a ∷ A) B h =
    ap request_of (open_exchange-cons a (A ++ B) (has-behind A B h)) ∙ sym (same-request (open_exchange_in (A ++ B))) ∙ waits-behind A B h

one-waits : (r : List ℕ) (a : Option (List ℕ)) (o : List Message) → request_of (open_exchange_in (exchange r a ∷ map stray_of o)) ≡ open_if a r
one-waits r None o = rw (no-strays o).0 refl
one-waits r (Some a) o = rw (no-strays o).1 refl

parts-wait : (ps : List Part) → request_of (open_exchange_in (flat_map items_of ps)) ≡ open_in ps
parts-wait [] = refl
parts-wait (p ∷ []) =
    ap (λ l. request_of (open_exchange_in l)) (one-part p) ∙ one-waits p.request (answer p.request p.behind) (strays_in p.request p.behind)
parts-wait (p ∷ q ∷ ps) = waits-behind (items_of p) (flat_map items_of (q ∷ ps)) (has-items q ps) ∙ parts-wait (q ∷ ps)

meaning-waits-by : (b : List Message) (ps : List Part) → request_of (open_exchange_in (map stray_of b ++ flat_map items_of ps)) ≡ open_in ps
meaning-waits-by b [] = rw (append-nil (map stray_of b), (no-strays b).1) refl
meaning-waits-by b (p ∷ ps) = waits-behind (map stray_of b) (flat_map items_of (p ∷ ps)) (has-items p ps) ∙ parts-wait (p ∷ ps)

removed-append : (r : List ℕ) (xs : List Message) (x : Message)
    → removed r (xs ++ x ∷ []) ≡ removed r xs ++ removed_with (open_if (answer r xs) r) x
removed-append r [] x = refl
removed-append r (y ∷ ys) x =
    elim (cases_Bool (is_answer_to r y)) [
      | inl e ↦ rw e refl
      | inr e ↦ elim (cases_Bool (is_pending_reply_to r y)) [
        | inl q ↦ rw (e, q) (ap (λ l. y ∷ l) (removed-append r ys x))
        | inr q ↦ rw (e, q) (removed-append r ys x)
      ]
    ]

grown-request : (ps : List Part) (x : Message) → is_tester_request x ≡ true → flat_map removed_of (grown ps x) ≡ flat_map removed_of ps
grown-request [] x e = rw e refl
grown-request (p ∷ []) x e = rw e refl
grown-request (p ∷ q ∷ ps) x e = ap (λ l. removed_of p ++ l) (grown-request (q ∷ ps) x e)

grown-other : (ps : List Part) (x : Message) → is_tester_request x ≡ false
    → flat_map removed_of (grown ps x) ≡ flat_map removed_of ps ++ removed_with (open_in ps) x
grown-other [] x e = rw e refl
grown-other (p ∷ []) x e = rw e (
    append-nil _
    ∙ removed-append p.request p.behind x
    ∙ ap (λ l. l ++ removed_with (open_in (p ∷ [])) x) (sym (append-nil (removed_of p))))
grown-other (p ∷ q ∷ ps) x e = ap (λ l. removed_of p ++ l) (grown-other (q ∷ ps) x e) ∙ sym (append_assoc (removed_of p) _ _)

more-by-role : (o : Option (ℕ × List ℕ)) (x : Message) → removed_with (request_of o) x ≡ those_removed (x ∷ []) (role_by o x ∷ [])
more-by-role None x = refl
more-by-role (Some w) x =
    elim (cases_Bool (is_answer_to w.1 x)) [
      | inl e ↦ rw e refl
      | inr e ↦ elim (cases_Bool (is_pending_reply_to w.1 x)) [ inl q ↦ rw (e, q) refl | inr q ↦ rw (e, q) refl ]
    ]

pub removed_messages-append : (M : List Message) (x : Message)
    → removed_messages (M ++ x ∷ []) ≡ removed_messages M ++ those_removed (x ∷ []) (role_behind M x ∷ [])
removed_messages-append M x =
    ap (flat_map removed_of) (grows M x).1 ∙ elim (cases_Bool (is_tester_request x)) [
      | inl e ↦ rw e (grown-request (parts M) x e ∙ sym (append-nil (removed_messages M)))
      | inr e ↦ rw e (
          grown-other (parts M) x e
          ∙ ap (λ o. removed_messages M ++ removed_with o x) (sym (meaning-waits-by (before_requests M) (parts M)))
          ∙ ap (λ l. removed_messages M ++ l) (more-by-role (open_exchange_in (meaning M)) x))
    ]
