-- The meaning of a list with one more message: the items with that message joined to them.
use Rattle.std.proofs.Common.{◌≡◌, ℕ, true, false, List, [], ◌∷◌, ◌++◌, map, Option, Some, None, refl, sym, ◌∙◌, ap, cond, inl, inr}
use Rattle.std.specs.List.{flat_map}
use Rattle.std.proofs.lemmas.List.{append-nil, map-append}
use Rattle.std.proofs.lemmas.Bool.{cond_both, cases_Bool}
use Rattle.direction.specs.Dir.{Message}
use Rattle.uds_exchange.specs.Meaning.{is_tester_request, is_answer_to, is_pending_reply_to, before_requests, Part, part, parts, answer, strays_in}
use Rattle.uds_exchange.specs.Meaning.{ItemValue, exchange, stray, stray_of, items_of, meaning}
use Rattle.uds_exchange.specs.Order.{has_exchange}
use Rattle.uds_exchange.specs.proving.OpenExchange.{one_later, open_exchange_in}
use Rattle.uds_exchange.specs.proving.Pairing.{items_with_other, items_with}

-- the parts, and what comes before them, with one more message
abbrev pub grown : List Part → Message → List Part
grown [] x = cond (is_tester_request x) (part x.1 [] ∷ []) []
grown (p ∷ []) x = cond (is_tester_request x) (p ∷ part x.1 [] ∷ []) (part p.request (p.behind ++ x ∷ []) ∷ [])
grown (p ∷ q ∷ ps) x = p ∷ grown (q ∷ ps) x

abbrev pub fronted : List Message → List Part → Message → List Message
fronted b [] x = cond (is_tester_request x) b (b ++ x ∷ [])
fronted b (p ∷ ps) x = b

fronted-cons : (y : Message) (b : List Message) (ps : List Part) (x : Message) → y ∷ fronted b ps x ≡ fronted (y ∷ b) ps x
fronted-cons y b [] x =
    cond_both (is_tester_request x) b (b ++ x ∷ []) (λ l. y ∷ l ≡ fronted (y ∷ b) [] x) (λ e. rw e refl) (λ e. rw e refl)
fronted-cons y b (p ∷ ps) x = refl

grown-cons : (r : List ℕ) (b : List Message) (ps : List Part) (x : Message) → part r (fronted b ps x) ∷ grown ps x ≡ grown (part r b ∷ ps) x
grown-cons r b [] x = elim (cases_Bool (is_tester_request x)) [ inl e ↦ rw e refl | inr e ↦ rw e refl ]
grown-cons r b (p ∷ ps) x = refl

-- the cut of a list into parts, with one more message
pub grows : (M : List Message) (x : Message)
    → (before_requests (M ++ x ∷ []) ≡ fronted (before_requests M) (parts M) x) × (parts (M ++ x ∷ []) ≡ grown (parts M) x)
grows [] x = (refl, refl)
grows (y ∷ ys) x =
    let rest = grows ys x in
    elim (cases_Bool (is_tester_request y)) [
      | inl e ↦ rw e (refl, rw (rest.0, rest.1) (grown-cons y.1 (before_requests ys) (parts ys) x))
      | inr e ↦ rw e (ap (λ l. y ∷ l) rest.0 ∙ fronted-cons y (before_requests ys) (parts ys) x, rest.1)
    ]

-- strays alone have no exchange
pub no-strays : (o : List Message) → (has_exchange (map stray_of o) ≡ false) × (open_exchange_in (map stray_of o) ≡ None)
no-strays [] = (refl, refl)
no-strays (x ∷ o) = ((no-strays o).0, ap one_later (no-strays o).1)

pub open_exchange-cons : (a : ItemValue) (its : List ItemValue) → has_exchange its ≡ true
    → open_exchange_in (a ∷ its) ≡ one_later (open_exchange_in its)
open_exchange-cons (stray d m) its h = refl
open_exchange-cons (exchange r (Some b)) its h = refl
open_exchange-cons (exchange r None) its h = rw h refl

join_by-cons : (a : ItemValue) (o : Option (ℕ × List ℕ)) (its : List ItemValue) (x : Message)
    → items_with_other (one_later o) (a ∷ its) x ≡ a ∷ items_with_other o its x
join_by-cons a None its x = refl
join_by-cons a (Some w) its x =
    elim (cases_Bool (is_answer_to w.1 x)) [
      | inl e ↦ rw e refl
      | inr e ↦ elim (cases_Bool (is_pending_reply_to w.1 x)) [ inl q ↦ rw (e, q) refl | inr q ↦ rw (e, q) refl ]
    ]

-- a message is joined to the last exchange, whatever comes before it
join-cons : (a : ItemValue) (its : List ItemValue) (x : Message) → has_exchange its ≡ true → items_with (a ∷ its) x ≡ a ∷ items_with its x
join-cons a its x h =
    elim (cases_Bool (is_tester_request x)) [
      | inl e ↦ rw e refl
      | inr e ↦ rw (e, open_exchange-cons a its h) (join_by-cons a (open_exchange_in its) its x)
    ]

-- an exchange behind other items is an exchange among all
pub has-behind : (A B : List ItemValue) → has_exchange B ≡ true → has_exchange (A ++ B) ≡ true
has-behind [] B h = h
has-behind (stray d m ∷ A) B h = has-behind A B h
has-behind (exchange r a ∷ A) B h = refl

join-behind : (A B : List ItemValue) (x : Message) → has_exchange B ≡ true → items_with (A ++ B) x ≡ A ++ items_with B x
join-behind [] B x h = refl
join-behind (a ∷ A) B x h = join-cons a (A ++ B) x (has-behind A B h) ∙ ap (λ l. a ∷ l) (join-behind A B x h)

-- one part with one more message
abbrev found : Option (List ℕ) → List ℕ → Message → Option (List ℕ)
found (Some a) r x = Some a
found None r x = cond (is_answer_to r x) (Some x.1) None

abbrev left : Option (List ℕ) → List ℕ → List Message → Message → List Message
left (Some a) r o x = o ++ x ∷ []
left None r o x = cond (is_answer_to r x) o (cond (is_pending_reply_to r x) o (o ++ x ∷ []))

answer-append : (r : List ℕ) (xs : List Message) (x : Message) → answer r (xs ++ x ∷ []) ≡ found (answer r xs) r x
answer-append r [] x = refl
answer-append r (y ∷ ys) x = elim (cases_Bool (is_answer_to r y)) [ inl e ↦ rw e refl | inr e ↦ rw e (answer-append r ys x) ]

left-cons : (a : Option (List ℕ)) (r : List ℕ) (y : Message) (o : List Message) (x : Message) → y ∷ left a r o x ≡ left a r (y ∷ o) x
left-cons (Some a) r y o x = refl
left-cons None r y o x =
    elim (cases_Bool (is_answer_to r x)) [
      | inl e ↦ rw e refl
      | inr e ↦ elim (cases_Bool (is_pending_reply_to r x)) [ inl q ↦ rw (e, q) refl | inr q ↦ rw (e, q) refl ]
    ]

strays_in-append : (r : List ℕ) (xs : List Message) (x : Message) → strays_in r (xs ++ x ∷ []) ≡ left (answer r xs) r (strays_in r xs) x
strays_in-append r [] x = refl
strays_in-append r (y ∷ ys) x =
    elim (cases_Bool (is_answer_to r y)) [
      | inl e ↦ rw e refl
      | inr e ↦ elim (cases_Bool (is_pending_reply_to r y)) [
        | inl q ↦ rw (e, q) (strays_in-append r ys x)
        | inr q ↦ rw (e, q) (ap (λ l. y ∷ l) (strays_in-append r ys x) ∙ left-cons (answer r ys) r y (strays_in r ys) x)
      ]
    ]

stray_of-append : (o : List Message) (x : Message) → map stray_of (o ++ x ∷ []) ≡ map stray_of o ++ stray_of x ∷ []
stray_of-append o x = map-append stray_of o (x ∷ [])

part-grows : (r : List ℕ) (a : Option (List ℕ)) (o : List Message) (x : Message) → is_tester_request x ≡ false
    → exchange r (found a r x) ∷ map stray_of (left a r o x) ≡ items_with (exchange r a ∷ map stray_of o) x
part-grows r (Some a) o x h = rw (h, (no-strays o).1) (ap (λ l. exchange r (Some a) ∷ l) (stray_of-append o x))
part-grows r None o x h =
    rw (h, (no-strays o).0) (elim (cases_Bool (is_answer_to r x)) [
      | inl e ↦ rw e refl
      | inr e ↦ elim (cases_Bool (is_pending_reply_to r x)) [
        | inl q ↦ rw (e, q) refl
        | inr q ↦ rw (e, q) (ap (λ l. exchange r None ∷ l) (stray_of-append o x))
      ]
    ])

-- the items of a part have its exchange
pub has-items : (p : Part) (ps : List Part) → has_exchange (flat_map items_of (p ∷ ps)) ≡ true
has-items p ps = refl

-- the items of one part alone
pub one-part : (p : Part) → flat_map items_of (p ∷ []) ≡ items_of p
one-part p = append-nil (items_of p)

parts-join : (p : Part) (ps : List Part) (x : Message) → flat_map items_of (grown (p ∷ ps) x) ≡ items_with (flat_map items_of (p ∷ ps)) x
parts-join p [] x =
    elim (cases_Bool (is_tester_request x)) [
      | inl e ↦ rw e
          (ap (λ l. exchange p.request (answer p.request p.behind) ∷ (l ++ exchange x.1 None ∷ []))
          (sym (append-nil (map stray_of (strays_in p.request p.behind)))))
      | inr e ↦
          (let grows_by : items_of (part p.request (p.behind ++ x ∷ [])) ≡ items_with (items_of p) x =
          rw (answer-append p.request p.behind x, strays_in-append p.request p.behind x)
          (part-grows p.request (answer p.request p.behind) (strays_in p.request p.behind) x e) in
          ap (λ b. flat_map items_of (cond b (p ∷ part x.1 [] ∷ []) (part p.request (p.behind ++ x ∷ []) ∷ []))) e
          ∙ one-part (part p.request (p.behind ++ x ∷ [])) ∙ grows_by ∙ ap (λ l. items_with l x) (sym (one-part p)))
    ]
parts-join p (q ∷ ps) x =
    ap (λ l. items_of p ++ l) (parts-join q ps x) ∙ sym (join-behind (items_of p) (flat_map items_of (q ∷ ps)) x (has-items q ps))

meaning-append-by : (b : List Message) (ps : List Part) (x : Message)
    → map stray_of (fronted b ps x) ++ flat_map items_of (grown ps x) ≡ items_with (map stray_of b ++ flat_map items_of ps) x
meaning-append-by b [] x =
    elim (cases_Bool (is_tester_request x)) [
      | inl e ↦ rw e (ap (λ l. l ++ exchange x.1 None ∷ []) (sym (append-nil (map stray_of b))))
      | inr e ↦
          (let plain : map stray_of b ++ stray_of x ∷ [] ≡ items_with_other (open_exchange_in (map stray_of b)) (map stray_of b) x = rw
          (no-strays b).1 refl in
          rw e (append-nil _ ∙ stray_of-append b x ∙ plain ∙ ap (λ l. items_with_other (open_exchange_in l) l x) (sym (append-nil (map stray_of b)))))
    ]
meaning-append-by b (p ∷ ps) x =
    ap (λ l. map stray_of b ++ l) (parts-join p ps x) ∙ sym (join-behind (map stray_of b) (flat_map items_of (p ∷ ps)) x (has-items p ps))

-- the meaning of a longer list
pub meaning_goes_on : (M : List Message) (x : Message) → meaning (M ++ x ∷ []) ≡ items_with (meaning M) x
meaning_goes_on M x = rw ((grows M x).0, (grows M x).1) (meaning-append-by (before_requests M) (parts M) x)
