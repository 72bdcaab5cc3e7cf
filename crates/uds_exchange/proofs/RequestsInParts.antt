-- The parts of a list of messages: neither what comes before its first request nor what follows a request of it is
-- a request.
use Rattle.std.specs.Prelude.{⊤}
use Rattle.std.proofs.Common.{◌≡◌, ℕ, true, false, List, [], ◌∷◌, ◌++◌, refl, ap}
use Rattle.std.proofs.lemmas.Bool.{cond_both}
use Rattle.direction.specs.Dir.{Message}
use Rattle.uds_message.specs.Message.{is_request}
use Rattle.uds_exchange.specs.Meaning.{is_tester_request, is_answer_to, is_pending_reply_to, before_requests, Part, parts, strays_in}
use Rattle.uds_exchange.proofs.Replies.{request-bytes}

-- no message of the list is a request
abbrev pub Quiet : List Message → Type 0
Quiet [] = ⊤
Quiet (x ∷ xs) = (is_tester_request x ≡ false) × Quiet xs

pub quiet-before_requests : (M : List Message) → Quiet (before_requests M)
quiet-before_requests [] = tt
quiet-before_requests (x ∷ xs) =
    cond_both (is_tester_request x) [] (x ∷ before_requests xs) Quiet (λ _. tt) (λ e. (e, quiet-before_requests xs))

pub before_requests-append : (xs N : List Message) → Quiet xs → before_requests (xs ++ N) ≡ xs ++ before_requests N
before_requests-append [] N h = refl
before_requests-append (x ∷ xs) N h = rw h.0 (ap (λ l. x ∷ l) (before_requests-append xs N h.1))

pub parts-append : (xs N : List Message) → Quiet xs → parts (xs ++ N) ≡ parts N
parts-append [] N h = refl
parts-append (x ∷ xs) N h = rw h.0 (parts-append xs N h.1)

-- the strays of a part without another request have none
pub quiet-strays_in : (r : List ℕ) (xs : List Message) → Quiet xs → Quiet (strays_in r xs)
quiet-strays_in r [] h = tt
quiet-strays_in r (x ∷ xs) h =
    cond_both (is_answer_to r x) _ _ Quiet (λ _. h.1) (λ _.
    cond_both (is_pending_reply_to r x) _ _ Quiet (λ _. quiet-strays_in r xs h.1) (λ _. (h.0, quiet-strays_in r xs h.1)))

-- each part begins with a request and has no other
abbrev pub Good : List Part → Type 0
Good [] = ⊤
Good (p ∷ ps) = (is_request p.request ≡ true) × Quiet p.behind × Good ps

pub good-parts : (M : List Message) → Good (parts M)
good-parts [] = tt
good-parts (x ∷ xs) =
    cond_both (is_tester_request x) _ _ Good
    (λ e. (request-bytes x e, quiet-before_requests xs, good-parts xs))
    (λ _. good-parts xs)
