-- The request that is open after a list of messages is that of the exchange which waits in its meaning.
use Rattle.std.proofs.Common.{◌≡◌, ℕ, true, false, List, [], ◌∷◌, ◌++◌, length, Option, Some, None, refl, sym, ◌∙◌, ap, subst, inl, inr, append_assoc, ◌↔◌}
use Rattle.std.specs.List.{list_any}
use Rattle.std.proofs.lemmas.List.{append-nil}
use Rattle.std.proofs.lemmas.Bool.{or_parts, cases_Bool}
use Rattle.std.proofs.lemmas.Option.{same_Some, none-some}
use Rattle.direction.specs.Dir.{Message}
use Rattle.direction.specs.declared.Dir.TheVariants.{Tester}
use Rattle.uds_exchange.specs.Meaning.{ItemValue, is_tester_request, is_answer_to, is_pending_reply_to, meaning, exchange, stray}
use Rattle.uds_exchange.specs.Roles.{IsOpenBehind}
use Rattle.uds_exchange.specs.proving.OpenExchange.{open_exchange_in}
use Rattle.uds_exchange.specs.proving.Pairing.{items_with_other, items_with}
use Rattle.uds_exchange.specs.Order.{has_exchange, open_request_in, open_request}
use Rattle.uds_exchange.proofs.ListTests.{any-append}
use Rattle.uds_exchange.proofs.OpenExchange.{open_exchange-stray, open_exchange-request, open_exchange-answered, request_of, same-request}
use Rattle.uds_exchange.proofs.MeaningOfMore.{meaning_goes_on}
use Rattle.uds_exchange.proofs.Replies.{from-tester, request-bytes}

-- the exchange that waits still does after a message that is neither request nor answer
still-waits : (its : List ItemValue) (w : ℕ × List ℕ) (x : Message)
    → open_exchange_in its ≡ Some w → is_tester_request x ≡ false → is_answer_to w.1 x ≡ false → open_exchange_in (items_with its x) ≡ Some w
still-waits its w x h r a =
    elim (cases_Bool (is_pending_reply_to w.1 x)) [
      | inl q ↦ rw (r, h, a, q) h
      | inr q ↦ rw (r, h, a, q) (open_exchange-stray its x.0 x.1 ∙ h)
    ]

waits-over : (past since : List Message) (w : ℕ × List ℕ) → open_exchange_in (meaning past) ≡ Some w
    → list_any is_tester_request since ≡ false → list_any (is_answer_to w.1) since ≡ false → open_exchange_in (meaning (past ++ since)) ≡ Some w
waits-over past [] w h r a = rw append-nil h
waits-over past (x ∷ xs) w h r a =
    let r' = or_parts (is_tester_request x) (list_any is_tester_request xs) r in
    let a' = or_parts (is_answer_to w.1 x) (list_any (is_answer_to w.1) xs) a in
    rw (← append_assoc past (x ∷ []) xs)
    (waits-over (past ++ x ∷ []) xs w (ap open_exchange_in (meaning_goes_on past x) ∙ still-waits (meaning past) w x h r'.0 a'.0) r'.1 a'.1)

-- the exchange of the open request waits
pub waits-open : (past : List Message) (r : List ℕ) → IsOpenBehind past r → (k : ℕ) × (open_exchange_in (meaning past) ≡ Some (k, r))
waits-open past r o =
    let place = length (meaning o.earlier) in
    let here : open_exchange_in (items_with (meaning o.earlier) (Tester, r))
    ≡ Some (place, r) = rw o.is_one (open_exchange-request (meaning o.earlier) r) in
    let first = ap open_exchange_in (meaning_goes_on o.earlier (Tester, r)) ∙ here in
    let whole = waits-over (o.earlier ++ (Tester, r) ∷ []) o.since (place, r) first o.is_last o.is_unanswered in
    let split = o.place ∙ sym (append_assoc o.earlier ((Tester, r) ∷ []) o.since) in
    (place, ap (λ l. open_exchange_in (meaning l)) split ∙ whole)

-- the request that is open behind these messages is that of the exchange that waits
pub same-open : (past : List Message) (r : List ℕ) (w : ℕ × List ℕ) → IsOpenBehind past r → open_exchange_in (meaning past) ≡ Some w → r ≡ w.1
same-open past r w o h = let found = waits-open past r o in ap (λ v. v.1) (same_Some _ _ (sym found.1 ∙ h))

-- the open request is still open after such a message
open-more : (past : List Message) (r : List ℕ) (x : Message)
    → IsOpenBehind past r → is_tester_request x ≡ false → is_answer_to r x ≡ false → IsOpenBehind (past ++ x ∷ []) r
open-more past r x o h a = record {
  earlier = o.earlier;
  since = o.since ++ x ∷ [];
  place = ap (λ l. l ++ x ∷ []) o.place ∙ append_assoc o.earlier ((Tester, r) ∷ o.since) (x ∷ []);
  is_one = o.is_one;
  is_last = any-append is_tester_request o.since x o.is_last h;
  is_unanswered = any-append (is_answer_to r) o.since x o.is_unanswered a;
}

open-request : (past : List Message) (x : Message) → is_tester_request x ≡ true → IsOpenBehind (past ++ x ∷ []) x.1
open-request past x e = record {
  earlier = past;
  since = [];
  place = ap (λ y. past ++ y ∷ []) (sym (from-tester x e));
  is_one = request-bytes x e;
  is_last = refl;
  is_unanswered = refl;
}

abbrev Opens : List Message → Type 0
Opens past = (w : ℕ × List ℕ) → open_exchange_in (meaning past) ≡ Some w → IsOpenBehind past w.1

opens-by : (past : List Message) (x : Message) (o : Option (ℕ × List ℕ)) → Opens past → is_tester_request x ≡ false
    → open_exchange_in (meaning past) ≡ o
    → (w : ℕ × List ℕ) → open_exchange_in (items_with_other o (meaning past) x) ≡ Some w → IsOpenBehind (past ++ x ∷ []) w.1
opens-by past x None s r h w e = absurd (none-some _ (sym h ∙ sym (open_exchange-stray (meaning past) x.0 x.1) ∙ e))
opens-by past x (Some v) s r h w e =
    elim (cases_Bool (is_answer_to v.1 x)) [
      | inl a ↦ absurd (none-some _ (sym (open_exchange-answered (meaning past) v x.1 h) ∙ rw a at e))
      | inr a ↦
          (let more = open-more past v.1 x (s v h) r a in
          let opened = λ (y : ℕ × List ℕ). IsOpenBehind (past ++ x ∷ []) y.1 in
          elim (cases_Bool (is_pending_reply_to v.1 x)) [
            | inl q ↦ subst opened (same_Some _ _ (sym h ∙ rw (a, q) at e)) more
            | inr q ↦ subst opened (same_Some _ _ (sym h ∙ sym (open_exchange-stray (meaning past) x.0 x.1) ∙ rw (a, q) at e)) more
          ])
    ]

opens-join : (past : List Message) (x : Message) → Opens past → Opens (past ++ x ∷ [])
opens-join past x s = λ w e.
    let e' : open_exchange_in (items_with (meaning past) x) ≡ Some w = ap open_exchange_in (sym (meaning_goes_on past x)) ∙ e in
    elim (cases_Bool (is_tester_request x)) [
      | inl r ↦
          (let same : (length (meaning past), x.1) ≡ w = same_Some _ _ (sym (open_exchange-request (meaning past) x.1) ∙ rw r at e') in
          subst (λ (y : ℕ × List ℕ). IsOpenBehind (past ++ x ∷ []) y.1) same (open-request past x r))
      | inr r ↦ opens-by past x (open_exchange_in (meaning past)) s r refl w (rw r at e')
    ]

opens-over : (past more : List Message) → Opens past → Opens (past ++ more)
opens-over past [] s = rw append-nil s
opens-over past (x ∷ xs) s = rw (← append_assoc past (x ∷ []) xs) (opens-over (past ++ x ∷ []) xs (opens-join past x s))

-- the request of an exchange that waits is open
pub opens : (past : List Message) (w : ℕ × List ℕ) → open_exchange_in (meaning past) ≡ Some w → IsOpenBehind past w.1
opens past = opens-over [] past (λ w h. absurd (none-some _ h))

-- the open request is that of the exchange which waits
pub open-request-waits : (its : List ItemValue) → open_request_in its ≡ request_of (open_exchange_in its)
open-request-waits [] = refl
open-request-waits (stray d m ∷ its) = open-request-waits its ∙ same-request (open_exchange_in its)
open-request-waits (exchange q (Some b) ∷ its) = open-request-waits its ∙ same-request (open_exchange_in its)
open-request-waits (exchange q None ∷ its) =
    elim (cases_Bool (has_exchange its)) [ inl e ↦ rw e (open-request-waits its ∙ same-request (open_exchange_in its)) | inr e ↦ rw e refl ]

waits-by : (o : Option (ℕ × List ℕ)) (r : List ℕ) → request_of o ≡ Some r → (w : ℕ × List ℕ) × (o ≡ Some w) × (w.1 ≡ r)
waits-by None r h = cc
waits-by (Some w) r h = (w, refl, same_Some _ _ h)

-- the open request is the last one, and unanswered
pub open_request_is_last : (M : List Message) (r : List ℕ) → (open_request M ≡ Some r) ↔ IsOpenBehind M r
open_request_is_last M r = (
  λ h.
      let w = waits-by (open_exchange_in (meaning M)) r (sym (open-request-waits (meaning M)) ∙ h) in
      subst (IsOpenBehind M) w.2 (opens M w.0 w.1),
  λ o. open-request-waits (meaning M) ∙ ap request_of (waits-open M r o).1,
)
