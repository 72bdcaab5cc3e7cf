-- The messages of a meaning have that meaning.
use Rattle.std.proofs.Common.{◌≡◌, ℕ, true, List, [], ◌∷◌, ◌++◌, map, Option, Some, None, refl, sym, ◌∙◌, ap, inl, inr, subst}
use Rattle.std.specs.List.{flat_map}
use Rattle.std.proofs.lemmas.List.{append-nil}
use Rattle.std.proofs.lemmas.Option.{same_Some, none-some}
use Rattle.std.proofs.lemmas.Bool.{cases_Bool, false≢true}
use Rattle.direction.specs.Dir.{Message}
use Rattle.direction.specs.declared.Dir.TheVariants.{Tester, Unit}
use Rattle.uds_exchange.specs.Meaning.{is_answer_to, is_pending_reply_to, before_requests, Part, part, parts, answer, strays_in, items_of, meaning, flattened}
use Rattle.uds_exchange.proofs.RequestsInParts.{Quiet, quiet-before_requests, before_requests-append, parts-append, quiet-strays_in, Good, good-parts}
use Rattle.uds_exchange.proofs.MessagesOfParts.{kept, stays, flattened-part, flattened-meaning}

-- where nothing answers, what is left has neither an answer nor a pending reply
unanswered : (r : List ℕ) (xs : List Message) → answer r xs ≡ None
    → (answer r (strays_in r xs) ≡ None) × (strays_in r (strays_in r xs) ≡ strays_in r xs)
unanswered r [] h = (refl, refl)
unanswered r (x ∷ xs) h =
    elim (cases_Bool (is_answer_to r x)) [
      | inl e ↦ absurd (none-some _ (sym (rw e at h)))
      | inr e ↦
          (let rest = unanswered r xs (rw e at h) in
          elim (cases_Bool (is_pending_reply_to r x)) [
            | inl q ↦ rw (e, q) rest
            | inr q ↦ rw (e, q, e, q) (rest.0, ap (λ l. x ∷ l) rest.1)
          ])
    ]

answers-unit : (r : List ℕ) (x : Message) → is_answer_to r x ≡ true → is_answer_to r (Unit, x.1) ≡ true
answers-unit r (Tester, m) h = absurd (false≢true h)
answers-unit r (Unit, m) h = h

is-answer : (r : List ℕ) (xs : List Message) (b : List ℕ) → answer r xs ≡ Some b → is_answer_to r (Unit, b) ≡ true
is-answer r [] b h = absurd (none-some _ h)
is-answer r (x ∷ xs) b h =
    elim (cases_Bool (is_answer_to r x)) [
      | inl e ↦
          (let same : x.1 ≡ b = same_Some _ _ (rw e at h) in
          subst (λ m. is_answer_to r (Unit, m) ≡ true) same (answers-unit r x e))
      | inr e ↦ is-answer r xs b (rw e at h)
    ]

again-same : (r : List ℕ) (xs : List Message) (a : Option (List ℕ)) → answer r xs ≡ a
    → (answer r (kept a (strays_in r xs)) ≡ a) × (strays_in r (kept a (strays_in r xs)) ≡ strays_in r xs)
unfolding kept
again-same r xs None h = unanswered r xs h
again-same r xs (Some b) h = rw (is-answer r xs b h) (refl, refl)

again : Part → Part
again p = part p.request (stays p)

-- a part of which only what stays is left has the same items
items-again : (p : Part) → items_of (again p) ≡ items_of p
unfolding again
items-again p =
    let same = again-same p.request p.behind (answer p.request p.behind) refl in
    rw (same.0, same.1) refl

quiet-kept : (a : Option (List ℕ)) (o : List Message) → Quiet o → Quiet (kept a o)
unfolding kept
quiet-kept None o h = h
quiet-kept (Some a) o h = (refl, h)

flattened-parts : (ps : List Part) → Good ps
    → (before_requests (flattened (flat_map items_of ps)) ≡ []) × (parts (flattened (flat_map items_of ps)) ≡ map again ps)
unfolding again
flattened-parts [] h = (refl, refl)
flattened-parts (p ∷ ps) h =
    let rest = flattened-parts ps h.2 in
    let quiet = quiet-kept (answer p.request p.behind) (strays_in p.request p.behind) (quiet-strays_in p.request p.behind h.1) in
    let tail = flattened (flat_map items_of ps) in
    let behind : before_requests (stays p ++ tail) ≡ stays p =
    before_requests-append (stays p) tail quiet ∙ ap (λ l. stays p ++ l) rest.0 ∙ append-nil _ in
    rw (flattened-part p ps, h.0, behind, parts-append (stays p) tail quiet, rest.1) (refl, refl)

items-all : (ps : List Part) → flat_map items_of (map again ps) ≡ flat_map items_of ps
items-all [] = refl
items-all (p ∷ ps) = ap (λ l. l ++ flat_map items_of (map again ps)) (items-again p) ∙ ap (λ l. items_of p ++ l) (items-all ps)

-- what stays of each part means that part again
pub meaning_is_kept : (M : List Message) → meaning (flattened (meaning M)) ≡ meaning M
meaning_is_kept M =
    let before = before_requests M in
    let tail = flattened (flat_map items_of (parts M)) in
    let quiet = quiet-before_requests M in
    let facts = flattened-parts (parts M) (good-parts M) in
    let front : before_requests (before ++ tail) ≡ before =
    before_requests-append before tail quiet ∙ ap (λ l. before ++ l) facts.0 ∙ append-nil _ in
    let back : parts (before ++ tail) ≡ map again (parts M) = parts-append before tail quiet ∙ facts.1 in
    rw (flattened-meaning M, front, back, items-all (parts M)) refl
