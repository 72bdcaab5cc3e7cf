-- What is held must wait: the open request's answer would come before it.
use Rattle.std.proofs.Common.{◌≡◌, ◌≢◌, ℕ, ◌+◌, true, false, ◌&&◌, List, [], ◌∷◌, ◌++◌, Option, Some, None, refl, sym, ◌∙◌, ap, inl, inr, append_assoc, ◌==◌}
use Rattle.std.specs.Prelude.{slice_set}
use Rattle.std.specs.List.{list_any}
use Rattle.std.proofs.lemmas.List.{append-nil}
use Rattle.std.proofs.lemmas.Bool.{cases_Bool, false≢true, eq-eqb}
use Rattle.std.proofs.Math.Bool.{or-true}
use Rattle.std.proofs.lemmas.Option.{same_Some, none-some}
use Rattle.direction.specs.Dir.{Message}
use Rattle.uds_message.specs.Message.{is_request, is_response_sid}
use Rattle.uds_exchange.specs.Meaning.{ItemValue, exchange, is_tester_request, is_answer_to, is_pending_reply_to, meaning, flattened}
use Rattle.uds_exchange.specs.Roles.{IsOpenBehind}
use Rattle.uds_exchange.specs.Order.{open_request_in, held_in, held, early, rejection_of}
use Rattle.uds_exchange.specs.proving.OpenExchange.{open_exchange_in}
use Rattle.uds_exchange.specs.proving.Pairing.{items_with_other, items_with}
use Rattle.uds_exchange.proofs.OpenExchange.{request_of, open_exchange-stray, open_exchange-answered}
use Rattle.uds_exchange.proofs.ListTests.{any-append, any-first}
use Rattle.uds_exchange.proofs.MeaningOfMore.{meaning_goes_on}
use Rattle.uds_exchange.proofs.OpenRequests.{opens, open-request-waits}
use Rattle.uds_exchange.proofs.EarlyOfMore.{early_in, early-held, early-is, early-request, early-kept, early-answered, none-held}
use Rattle.uds_exchange.proofs.Replies.{from-unit}

none-waits : (o : Option (ℕ × List ℕ)) → request_of o ≡ None → o ≡ None
none-waits None h = refl
none-waits (Some w) h = cc

-- where no request is open nothing is held
pub nothing-held : (its : List ItemValue) → open_request_in its ≡ None → held_in its ≡ []
nothing-held its h = none-held its (none-waits (open_exchange_in its) (sym (open-request-waits its) ∙ h))

-- no message that is held answers the request that waits
abbrev NoAnswerHeld : List ItemValue → Type 0
NoAnswerHeld its = (w : ℕ × List ℕ) → open_exchange_in its ≡ Some w → list_any (is_answer_to w.1) (held_in its) ≡ false

no-answer-joins : (its : List ItemValue) (x : Message) (o : Option (ℕ × List ℕ)) → NoAnswerHeld its → open_exchange_in its ≡ o
    → NoAnswerHeld (items_with_other o its x)
no-answer-joins its x None s h = λ w k. absurd (none-some _ (sym h ∙ sym (open_exchange-stray its x.0 x.1) ∙ k))
no-answer-joins its x (Some v) s h =
    elim (cases_Bool (is_answer_to v.1 x)) [
      | inl e ↦ rw e (λ w k. absurd (none-some _ (sym (open_exchange-answered its v x.1 h) ∙ k)))
      | inr e ↦ elim (cases_Bool (is_pending_reply_to v.1 x)) [
        | inl q ↦ rw (e, q) s
        | inr q ↦ rw (e, q) (λ w k.
            let same : v ≡ w = same_Some _ _ (sym h ∙ sym (open_exchange-stray its x.0 x.1) ∙ k) in
            rw (← same, (early-kept its v x.0 x.1 h).1) (any-append (is_answer_to v.1) (held_in its) x (s v h) e))
      ]
    ]

no-answer-join : (its : List ItemValue) (x : Message) → NoAnswerHeld its → NoAnswerHeld (items_with its x)
no-answer-join its x s =
    elim (cases_Bool (is_tester_request x)) [
      | inl e ↦ rw e (λ w k. rw (early-request its x.1).1 refl)
      | inr e ↦ rw e (no-answer-joins its x (open_exchange_in its) s refl)
    ]

no-answer-over : (M N : List Message) → NoAnswerHeld (meaning M) → NoAnswerHeld (meaning (M ++ N))
no-answer-over M [] s = rw append-nil s
no-answer-over M (x ∷ N) s =
    let one : NoAnswerHeld (meaning (M ++ x ∷ [])) = rw meaning_goes_on (no-answer-join (meaning M) x s) in
    rw (← append_assoc M (x ∷ []) N) (no-answer-over (M ++ x ∷ []) N one)

no-answer-held : (M : List Message) → NoAnswerHeld (meaning M)
no-answer-held M = no-answer-over [] M (λ w k. refl)

-- the rejection is an answer
pub rejects : (r : List ℕ) → is_request r ≡ true → is_answer_to r (rejection_of r) ≡ true
rejects [] h = absurd (false≢true h)
rejects (s ∷ bytes) h =
    elim (cases_Bool (is_response_sid s)) [
      | inl e ↦ absurd (false≢true (rw e at h))
      | inr e ↦ rw (e, eq-eqb s s refl) (or-true (0x7F == s + 0x40 && false))
    ]

-- an answer goes before what is held
answered : (its : List ItemValue) (w : ℕ × List ℕ) → open_exchange_in its ≡ Some w
    → (x : Message) → is_tester_request x ≡ false → is_answer_to w.1 x ≡ true
    → flattened (items_with its x) ≡ early_in its ++ x ∷ held_in its
answered its w h x r e =
    let set = early-answered its w x.1 h in
    rw (r, h, e) (
    sym (early-held (slice_set its w.0 (exchange w.1 (Some x.1))))
    ∙ rw (set.0, set.1) (append-nil _ ∙ ap (λ y. early_in its ++ y ∷ held_in its) (from-unit w.1 x e)))

-- what is held could not be put: a rejection of the request would come before it
pub held_must_wait : (M : List Message) (x : Message) (more : List Message) → held M ≡ x ∷ more
    → (r : List ℕ) × IsOpenBehind M r × (flattened (meaning (M ++ rejection_of r ∷ [])) ≡ early M ++ rejection_of r ∷ held M) × (x ≢ rejection_of r)
held_must_wait M x more h = answer-first-by (open_exchange_in (meaning M)) refl where
  answer-first-by : (o : Option (ℕ × List ℕ)) → open_exchange_in (meaning M) ≡ o
      → (r : List ℕ) × IsOpenBehind M r × (flattened (meaning (M ++ rejection_of r ∷ [])) ≡ early M ++ rejection_of r ∷ held M) × (x ≢ rejection_of r)
  answer-first-by None k = cc (none-held (meaning M) k)
  answer-first-by (Some w) k =
      let o = opens M w k in
      let yes = rejects w.1 o.is_one in
      let none : list_any (is_answer_to w.1) (x ∷ more) ≡ false = ap (list_any (is_answer_to w.1)) (sym h) ∙ no-answer-held M w k in (
        w.1,
        o,
        ap flattened (meaning_goes_on M (rejection_of w.1))
            ∙ answered (meaning M) w k (rejection_of w.1) refl yes
            ∙ ap (λ l. l ++ rejection_of w.1 ∷ held M) (sym (early-is M)),
        λ e. false≢true (sym none ∙ any-first (is_answer_to w.1) x more (ap (is_answer_to w.1) e ∙ yes)),
      )
