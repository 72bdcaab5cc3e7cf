-- What is early and what is held, as a meaning grows.
use Rattle.std.proofs.Common.{◌≡◌, ℕ, ◌-◌, false, List, [], ◌∷◌, ◌++◌, length, Option, Some, None, refl, sym, ◌∙◌, ap, arith}
use Rattle.std.proofs.Common.{cond, inl, inr, append_assoc, length-append}
use Rattle.std.specs.Prelude.{slice_set}
use Rattle.std.proofs.lemmas.List.{append-nil}
use Rattle.std.proofs.Math.Seq.{take-append_seam}
use Rattle.std.proofs.lemmas.Bool.{cases_Bool}
use Rattle.std.proofs.lemmas.Option.{same_Some, none-some}
use Rattle.direction.specs.Dir.{Message}
use Rattle.direction.specs.declared.Dir.{Dir}
use Rattle.direction.specs.declared.Dir.TheVariants.{Tester, Unit}
use Rattle.uds_exchange.specs.Meaning.{ItemValue, exchange, stray, is_tester_request, is_answer_to, is_pending_reply_to, meaning, flattened}
use Rattle.uds_exchange.specs.proving.OpenExchange.{open_exchange_in}
use Rattle.uds_exchange.specs.proving.Pairing.{items_with_other, items_with}
use Rattle.uds_exchange.specs.Order.{has_exchange, held_in, held, early}
use Rattle.uds_exchange.proofs.OpenExchange.{has-more, has-last, has-set, open_exchange-at, one_later-none, one_later-some}
use Rattle.uds_exchange.proofs.Replies.{from-tester, from-unit}
use Rattle.uds_exchange.proofs.MessagesOfParts.{flattened-push}
use Rattle.uds_exchange.proofs.MeaningOfMore.{meaning_goes_on}

-- the messages of the items before those that are held
abbrev pub early_in : List ItemValue → List Message
early_in [] = []
early_in (stray d m ∷ its) = (d, m) ∷ early_in its
early_in (exchange r (Some a) ∷ its) = (Tester, r) ∷ (Unit, a) ∷ early_in its
early_in (exchange r None ∷ its) = (Tester, r) ∷ cond (has_exchange its) (early_in its) []

-- these and then the held ones are all
pub early-held : (its : List ItemValue) → early_in its ++ held_in its ≡ flattened its
early-held [] = refl
early-held (stray d m ∷ its) = ap (λ l. (d, m) ∷ l) (early-held its)
early-held (exchange r (Some a) ∷ its) = ap (λ l. (Tester, r) ∷ (Unit, a) ∷ l) (early-held its)
early-held (exchange r None ∷ its) =
    elim (cases_Bool (has_exchange its)) [ inl e ↦ rw e (ap (λ l. (Tester, r) ∷ l) (early-held its)) | inr e ↦ rw e refl ]

-- with no exchange nothing is held
plain : (its : List ItemValue) → has_exchange its ≡ false → (early_in its ≡ flattened its) × (held_in its ≡ [])
plain [] h = (refl, refl)
plain (exchange r a ∷ its) h = cc
plain (stray d m ∷ its) h = let rest = plain its h in (ap (λ l. (d, m) ∷ l) rest.0, rest.1)

-- one more request
pub early-request : (its : List ItemValue) (r : List ℕ)
    → (early_in (its ++ exchange r None ∷ []) ≡ flattened its ++ (Tester, r) ∷ []) × (held_in (its ++ exchange r None ∷ []) ≡ [])
early-request [] r = (refl, refl)
early-request (stray d m ∷ its) r = let rest = early-request its r in (ap (λ l. (d, m) ∷ l) rest.0, rest.1)
early-request (exchange q (Some a) ∷ its) r = let rest = early-request its r in (ap (λ l. (Tester, q) ∷ (Unit, a) ∷ l) rest.0, rest.1)
early-request (exchange q None ∷ its) r = let rest = early-request its r in rw (has-last its r None) (ap (λ l. (Tester, q) ∷ l) rest.0, rest.1)

-- one more stray where no request waits
pub early-stray : (its : List ItemValue) (d : Dir) (m : List ℕ) → open_exchange_in its ≡ None
    → (early_in (its ++ stray d m ∷ []) ≡ flattened its ++ (d, m) ∷ []) × (held_in (its ++ stray d m ∷ []) ≡ [])
early-stray [] d m h = (refl, refl)
early-stray (stray e n ∷ its) d m h = let rest = early-stray its d m (one_later-none _ h) in (ap (λ l. (e, n) ∷ l) rest.0, rest.1)
early-stray (exchange q (Some a) ∷ its) d m h = let rest = early-stray its d m (one_later-none _ h) in
    (ap (λ l. (Tester, q) ∷ (Unit, a) ∷ l) rest.0, rest.1)
early-stray (exchange q None ∷ its) d m h =
    elim (cases_Bool (has_exchange its)) [
      | inl e ↦
          (let rest = early-stray its d m (one_later-none _ (rw e at h)) in
          rw (has-more its (stray d m) refl, e) (ap (λ l. (Tester, q) ∷ l) rest.0, rest.1))
      | inr e ↦ absurd (none-some _ (sym (rw e at h)))
    ]

-- where no exchange waits nothing is held
pub none-held : (its : List ItemValue) → open_exchange_in its ≡ None → held_in its ≡ []
none-held [] h = refl
none-held (stray e n ∷ its) h = none-held its (one_later-none _ h)
none-held (exchange q (Some a) ∷ its) h = none-held its (one_later-none _ h)
none-held (exchange q None ∷ its) h =
    elim (cases_Bool (has_exchange its)) [
      | inl e ↦ rw e (none-held its (one_later-none _ (rw e at h)))
      | inr e ↦ absurd (none-some _ (sym (rw e at h)))
    ]

-- one more stray where a request waits
pub early-kept : (its : List ItemValue) (w : ℕ × List ℕ) (d : Dir) (m : List ℕ) → open_exchange_in its ≡ Some w
    → (early_in (its ++ stray d m ∷ []) ≡ early_in its) × (held_in (its ++ stray d m ∷ []) ≡ held_in its ++ (d, m) ∷ [])
early-kept [] w d m h = cc
early-kept (stray e n ∷ its) w d m h =
    let v = one_later-some (open_exchange_in its) w h in
    let rest = early-kept its v.0 d m v.1 in
    (ap (λ l. (e, n) ∷ l) rest.0, rest.1)
early-kept (exchange q (Some a) ∷ its) w d m h =
    let v = one_later-some (open_exchange_in its) w h in
    let rest = early-kept its v.0 d m v.1 in
    (ap (λ l. (Tester, q) ∷ (Unit, a) ∷ l) rest.0, rest.1)
early-kept (exchange q None ∷ its) w d m h =
    elim (cases_Bool (has_exchange its)) [
      | inl e ↦ (let v = one_later-some (open_exchange_in its) w (rw e at h) in let rest = early-kept its v.0 d m v.1 in
          rw (has-more its (stray d m) refl, e) (ap (λ l. (Tester, q) ∷ l) rest.0, rest.1))
      | inr e ↦ rw (has-more its (stray d m) refl, e) (refl, flattened-push its (stray d m) (d, m) refl)
    ]

-- the request that waits gets its answer
pub early-answered : (its : List ItemValue) (w : ℕ × List ℕ) (a : List ℕ) → open_exchange_in its ≡ Some w
    → (early_in (slice_set its w.0 (exchange w.1 (Some a))) ≡ early_in its ++ (Unit, a) ∷ held_in its)
    × (held_in (slice_set its w.0 (exchange w.1 (Some a))) ≡ [])
early-answered [] w a h = cc
early-answered (stray e n ∷ its) w a h =
    let v = one_later-some (open_exchange_in its) w h in
    let rest = early-answered its v.0 a v.1 in
    rw v.2 (ap (λ l. (e, n) ∷ l) rest.0, rest.1)
early-answered (exchange q (Some b) ∷ its) w a h =
    let v = one_later-some (open_exchange_in its) w h in
    let rest = early-answered its v.0 a v.1 in
    rw v.2 (ap (λ l. (Tester, q) ∷ (Unit, b) ∷ l) rest.0, rest.1)
early-answered (exchange q None ∷ its) w a h =
    elim (cases_Bool (has_exchange its)) [
      | inl e ↦ (let v = one_later-some (open_exchange_in its) w (rw e at h) in
          let more = has-set its v.0.0 v.0.1 None (Some a) (open_exchange-at its v.0 v.1) ∙ e in
          let rest = early-answered its v.0 a v.1 in
          rw (v.2, more, e) (ap (λ l. (Tester, q) ∷ l) rest.0, rest.1))
      | inr e ↦ (let same : (0, q) ≡ w = same_Some _ _ (rw e at h) in
          let alone = plain its e in
          rw (← same, e) (ap (λ l. (Tester, q) ∷ (Unit, a) ∷ l) alone.0, alone.1))
    ]

-- what one more message brings
abbrev pub due_by : Option (ℕ × List ℕ) → List Message → Message → List Message
due_by None xs x = x ∷ []
due_by (Some w) xs x = cond (is_answer_to w.1 x) (x ∷ xs) []

abbrev pub due_in : List ItemValue → Message → List Message
due_in its x = cond (is_tester_request x) (held_in its ++ x ∷ []) (due_by (open_exchange_in its) (held_in its) x)

whole-early : (its : List ItemValue) → open_exchange_in its ≡ None → early_in its ≡ flattened its
whole-early its h = sym (append-nil (early_in its)) ∙ ap (λ l. early_in its ++ l) (sym (none-held its h)) ∙ early-held its

early-joins : (its : List ItemValue) (x : Message) (w : Option (ℕ × List ℕ)) → is_tester_request x ≡ false → open_exchange_in its ≡ w
    → early_in (items_with_other w its x) ≡ early_in its ++ due_by w (held_in its) x
early-joins its x None r h = (early-stray its x.0 x.1 h).0 ∙ ap (λ l. l ++ x ∷ []) (sym (whole-early its h))
early-joins its x (Some w) r h =
    elim (cases_Bool (is_answer_to w.1 x)) [
      | inl e ↦ rw e ((early-answered its w x.1 h).0 ∙ ap (λ y. early_in its ++ y ∷ held_in its) (from-unit w.1 x e))
      | inr e ↦ elim (cases_Bool (is_pending_reply_to w.1 x)) [
        | inl q ↦ rw (e, q) (sym (append-nil (early_in its)))
        | inr q ↦ rw (e, q) ((early-kept its w x.0 x.1 h).0 ∙ sym (append-nil (early_in its)))
      ]
    ]

-- with one more message what is early is what was, and then what becomes due
pub early-join : (its : List ItemValue) (x : Message) → early_in (items_with its x) ≡ early_in its ++ due_in its x
early-join its x =
    elim (cases_Bool (is_tester_request x)) [
      | inl e ↦ rw e (
          (early-request its x.1).0
          ∙ ap (λ y. flattened its ++ y ∷ []) (from-tester x e)
          ∙ ap (λ l. l ++ x ∷ []) (sym (early-held its))
          ∙ append_assoc (early_in its) _ _)
      | inr e ↦ rw e (early-joins its x (open_exchange_in its) e refl)
    ]

-- what is early, by recursion over the items
pub early-is : (M : List Message) → early M ≡ early_in (meaning M)
early-is M =
    let e = early_in (meaning M) in
    let h = held_in (meaning M) in
    let whole = early-held (meaning M) in
    let n : length (flattened (meaning M)) - length h ≡ length e = omega (arith, ap length whole, length-append e h) in
    rw n (rw (← whole) (take-append_seam e h))

-- what is early in a longer list
pub early-append : (M : List Message) (x : Message) → early (M ++ x ∷ []) ≡ early M ++ due_in (meaning M) x
early-append M x =
    early-is (M ++ x ∷ [])
    ∙ ap early_in (meaning_goes_on M x)
    ∙ early-join (meaning M) x
    ∙ ap (λ l. l ++ due_in (meaning M) x) (sym (early-is M))

-- what is early and then what is held are the messages of the meaning
pub early_then_held : (M : List Message) → early M ++ held M ≡ flattened (meaning M)
early_then_held M = ap (λ l. l ++ held M) (early-is M) ∙ early-held (meaning M)

-- what is early stays in front, whatever follows
pub early_stays : (M N : List Message) → (rest : List Message) × (flattened (meaning (M ++ N)) ≡ early M ++ rest)
early_stays M [] = (held M, rw append-nil (sym (early_then_held M)))
early_stays M (x ∷ N) =
    let more = early_stays (M ++ x ∷ []) N in (
      due_in (meaning M) x ++ more.0,
      ap (λ l. flattened (meaning l)) (sym (append_assoc M (x ∷ []) N))
          ∙ more.1
          ∙ ap (λ l. l ++ more.0) (early-append M x)
          ∙ append_assoc (early M) _ _,
    )

-- and begins what is early
pub early_grows : (M N : List Message) → (rest : List Message) × (early (M ++ N) ≡ early M ++ rest)
early_grows M [] = ([], ap early (append-nil M) ∙ sym (append-nil (early M)))
early_grows M (x ∷ N) =
    let more = early_grows (M ++ x ∷ []) N in (
      due_in (meaning M) x ++ more.0,
      ap early (sym (append_assoc M (x ∷ []) N)) ∙ more.1 ∙ ap (λ l. l ++ more.0) (early-append M x) ∙ append_assoc (early M) _ _,
    )
