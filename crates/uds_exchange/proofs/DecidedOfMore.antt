-- What is decided, as a meaning grows.
use Rattle.std.proofs.Common.{◌≡◌, ℕ, false, List, [], ◌∷◌, ◌++◌, map, Option, Some, None, refl, sym, ◌∙◌, ap, inl, inr, append_assoc}
use Rattle.std.specs.Prelude.{slice_set}
use Rattle.std.proofs.lemmas.List.{append-nil}
use Rattle.std.proofs.lemmas.Bool.{cases_Bool}
use Rattle.std.proofs.lemmas.Option.{same_Some, none-some}
use Rattle.direction.specs.Dir.{Message}
use Rattle.direction.specs.declared.Dir.{Dir}
use Rattle.uds_exchange.specs.Decided.{decided_in, decided, exchange_items}
use Rattle.uds_exchange.specs.Decider.{DeciderValue, decider_after, AreDecidedBy}
use Rattle.uds_exchange.specs.Laws.{open_with, DecidedThenUndecided, DecidedGrows, UndecidedMustWait}
use Rattle.uds_exchange.specs.Meaning.{ItemValue, exchange, stray, stray_of, is_tester_request, is_answer_to, is_pending_reply_to, meaning, flattened}
use Rattle.uds_exchange.specs.Order.{has_exchange, open_request_in, open_request, held_in, held, rejection_of}
use Rattle.uds_exchange.specs.proving.Deciding.{decided_by}
use Rattle.uds_exchange.specs.proving.OpenExchange.{open_exchange_in}
use Rattle.uds_exchange.specs.proving.Pairing.{items_with_other, items_with}
use Rattle.uds_exchange.proofs.OpenRequests.{open-request-waits, open_request_is_last}
use Rattle.uds_exchange.proofs.HeldMustWait.{rejects}
use Rattle.uds_exchange.proofs.MeaningOfMore.{meaning_goes_on}
use Rattle.uds_exchange.proofs.OpenRequestOfMore.{open_request_goes_on}
use Rattle.uds_exchange.proofs.OpenExchange.{has-more, has-last, has-set, open_exchange-at, one_later-none, one_later-some, request_of, no-exchange}

-- items without an exchange are the strays of their messages
strays-again : (its : List ItemValue) → has_exchange its ≡ false → map stray_of (flattened its) ≡ its
strays-again [] none = refl
strays-again (exchange r a ∷ its) none = cc
strays-again (stray d m ∷ its) none = ap (λ l. stray d m ∷ l) (strays-again its none)

-- what is decided and then what is not are all items
whole : (its : List ItemValue) → decided_in its ++ exchange_items (open_request_in its) None (held_in its) ≡ its
whole [] = refl
whole (stray d m ∷ its) = ap (λ l. stray d m ∷ l) (whole its)
whole (exchange r (Some a) ∷ its) = ap (λ l. exchange r (Some a) ∷ l) (whole its)
whole (exchange r None ∷ its) =
    elim (cases_Bool (has_exchange its)) [
      | inl e ↦ rw e (ap (λ l. exchange r None ∷ l) (whole its))
      | inr e ↦ rw e (ap (λ l. exchange r None ∷ l) (strays-again its e))
    ]

-- one more request decides all before it
decided-request : (its : List ItemValue) (r : List ℕ) → decided_in (its ++ exchange r None ∷ []) ≡ its
decided-request [] r = refl
decided-request (stray d m ∷ its) r = ap (λ l. stray d m ∷ l) (decided-request its r)
decided-request (exchange q (Some a) ∷ its) r = ap (λ l. exchange q (Some a) ∷ l) (decided-request its r)
decided-request (exchange q None ∷ its) r = rw (has-last its r None) (ap (λ l. exchange q None ∷ l) (decided-request its r))

-- where no request waits all is decided, and one more stray is
decided-all : (its : List ItemValue) → open_exchange_in its ≡ None → decided_in its ≡ its
decided-all its h =
    let none : open_request_in its ≡ None = open-request-waits its ∙ ap request_of h in
    sym (append-nil (decided_in its)) ∙ ap (λ o. decided_in its ++ exchange_items o None (held_in its)) (sym none) ∙ whole its

decided-stray : (its : List ItemValue) (d : Dir) (m : List ℕ) → open_exchange_in its ≡ None
    → decided_in (its ++ stray d m ∷ []) ≡ its ++ stray d m ∷ []
decided-stray [] d m h = refl
decided-stray (stray e n ∷ its) d m h = ap (λ l. stray e n ∷ l) (decided-stray its d m (one_later-none _ h))
decided-stray (exchange q (Some a) ∷ its) d m h = ap (λ l. exchange q (Some a) ∷ l) (decided-stray its d m (one_later-none _ h))
decided-stray (exchange q None ∷ its) d m h =
    elim (cases_Bool (has_exchange its)) [
      | inl e ↦ rw (has-more its (stray d m) refl, e) (ap (λ l. exchange q None ∷ l) (decided-stray its d m (one_later-none _ (rw e at h))))
      | inr e ↦ absurd (none-some _ (sym (rw e at h)))
    ]

-- where a request waits one more stray decides nothing
decided-held : (its : List ItemValue) (w : ℕ × List ℕ) (d : Dir) (m : List ℕ) → open_exchange_in its ≡ Some w
    → decided_in (its ++ stray d m ∷ []) ≡ decided_in its
decided-held [] w d m h = cc
decided-held (stray e n ∷ its) w d m h =
    let v = one_later-some (open_exchange_in its) w h in
    ap (λ l. stray e n ∷ l) (decided-held its v.0 d m v.1)
decided-held (exchange q (Some a) ∷ its) w d m h =
    let v = one_later-some (open_exchange_in its) w h in
    ap (λ l. exchange q (Some a) ∷ l) (decided-held its v.0 d m v.1)
decided-held (exchange q None ∷ its) w d m h =
    elim (cases_Bool (has_exchange its)) [
      | inl e ↦ (let v = one_later-some (open_exchange_in its) w (rw e at h) in
          rw (has-more its (stray d m) refl, e) (ap (λ l. exchange q None ∷ l) (decided-held its v.0 d m v.1)))
      | inr e ↦ rw (has-more its (stray d m) refl, e) refl
    ]

-- and its answer decides its exchange and the strays behind it
decided-answered : (its : List ItemValue) (w : ℕ × List ℕ) (a : List ℕ) → open_exchange_in its ≡ Some w
    → decided_in (slice_set its w.0 (exchange w.1 (Some a))) ≡ decided_in its ++ exchange w.1 (Some a) ∷ map stray_of (held_in its)
decided-answered [] w a h = cc
decided-answered (stray e n ∷ its) w a h =
    let v = one_later-some (open_exchange_in its) w h in
    rw v.2 (ap (λ l. stray e n ∷ l) (decided-answered its v.0 a v.1))
decided-answered (exchange q (Some b) ∷ its) w a h =
    let v = one_later-some (open_exchange_in its) w h in
    rw v.2 (ap (λ l. exchange q (Some b) ∷ l) (decided-answered its v.0 a v.1))
decided-answered (exchange q None ∷ its) w a h =
    elim (cases_Bool (has_exchange its)) [
      | inl e ↦ (let v = one_later-some (open_exchange_in its) w (rw e at h) in
          let more = has-set its v.0.0 v.0.1 None (Some a) (open_exchange-at its v.0 v.1) ∙ e in
          rw (v.2, more, e) (ap (λ l. exchange q None ∷ l) (decided-answered its v.0 a v.1)))
      | inr e ↦ (let same : (0, q) ≡ w = same_Some _ _ (rw e at h) in
          rw (← same, e) (ap (λ l. exchange q (Some a) ∷ l) (decided-all its (no-exchange its e) ∙ sym (strays-again its e))))
    ]

-- a decider, by the exchange that waits
abbrev decider-by : Option (ℕ × List ℕ) → List Message → DeciderValue
decider-by w holds = record { request = request_of w; holds = holds }

joined : (its : List ItemValue) (x : Message) (w : Option (ℕ × List ℕ)) → is_tester_request x ≡ false → open_exchange_in its ≡ w
    → decided_in (items_with_other w its x) ≡ decided_in its ++ decided_by (decider-by w (held_in its)) x
joined its x None r h = rw r (decided-stray its x.0 x.1 h ∙ ap (λ l. l ++ stray_of x ∷ []) (sym (decided-all its h)))
joined its x (Some w) r h =
    elim (cases_Bool (is_answer_to w.1 x)) [
      | inl e ↦ rw (r, e) (decided-answered its w x.1 h)
      | inr e ↦ elim (cases_Bool (is_pending_reply_to w.1 x)) [
        | inl q ↦ rw (r, e, q) (sym (append-nil (decided_in its)))
        | inr q ↦ rw (r, e, q) (decided-held its w x.0 x.1 h ∙ sym (append-nil (decided_in its)))
      ]
    ]

more : (its : List ItemValue) (x : Message) → decided_in (items_with its x)
    ≡ decided_in its ++ decided_by (decider-by (open_exchange_in its) (held_in its)) x
more its x =
    elim (cases_Bool (is_tester_request x)) [
      | inl e ↦ rw e (decided-request its x.1 ∙ sym (whole its)
          ∙ ap (λ o. decided_in its ++ exchange_items o None (held_in its)) (open-request-waits its))
      | inr e ↦ (ap decided_in (let by : items_with its x ≡ items_with_other (open_exchange_in its) its x = rw e refl in by)
          ∙ joined its x (open_exchange_in its) e refl)
    ]

-- what one more message decides, by what a decider keeps
pub decided-by : (M : List Message) (x : Message) (d : DeciderValue) → d ≡ decider_after M → AreDecidedBy M x (decided_by d x)
decided-by M x d is =
    ap decided_in (meaning_goes_on M x) ∙ more (meaning M) x
    ∙ ap (λ (o : Option (List ℕ)). let s : DeciderValue = record { request = o; holds = held M } in decided M ++ decided_by s x)
    (sym (open-request-waits (meaning M)))
    ∙ ap (λ s. decided M ++ decided_by s x) (sym is)

pub decided_then_undecided : DecidedThenUndecided
decided_then_undecided M = whole (meaning M)

pub decided_grows : DecidedGrows
decided_grows M [] = ([], ap decided (append-nil M) ∙ sym (append-nil (decided M)))
decided_grows M (x ∷ N) =
    let later = decided_grows (M ++ x ∷ []) N in
    let now = decided_by (decider_after M) x in (
      now ++ later.0,
      ap decided (sym (append_assoc M (x ∷ []) N)) ∙ later.1 ∙ ap (λ l. l ++ later.0) (decided-by M x (decider_after M) refl)
          ∙ append_assoc (decided M) now later.0,
    )

pub undecided_must_wait : UndecidedMustWait
undecided_must_wait M request open_one =
    let x = rejection_of request in
    let answers = rejects request ((open_request_is_last M request).0 open_one).is_one in
    let closed : open_request (M ++ x ∷ []) ≡ None = open_request_goes_on M x ∙ ap (λ o. open_with o x) open_one ∙ rw answers refl in
    let now : decided_by (decider_after M) x ≡ exchange request (Some x.1) ∷ map stray_of (held M) = rw (open_one, answers) refl in
    sym (decided_then_undecided (M ++ x ∷ []))
    ∙ ap (λ o. decided (M ++ x ∷ []) ++ exchange_items o None (held (M ++ x ∷ []))) closed
    ∙ append-nil (decided (M ++ x ∷ []))
    ∙ decided-by M x (decider_after M) refl ∙ ap (λ l. decided M ++ l) now
