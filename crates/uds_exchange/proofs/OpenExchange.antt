-- The exchange of a list of items that waits for its answer, and lists that go on after it.
use Rattle.std.proofs.Common.{◌≡◌, ℕ, zero, suc, true, false, List, [], ◌∷◌, ◌++◌, length, Option, Some, None, refl, sym, ◌∙◌, ap, inl, inr, option_map}
use Rattle.std.specs.Prelude.{slice_get, slice_set}
use Rattle.std.proofs.lemmas.Bool.{cases_Bool}
use Rattle.std.proofs.lemmas.Option.{same_Some}
use Rattle.direction.specs.declared.Dir.{Dir}
use Rattle.uds_message.specs.Message.{sid}
use Rattle.uds_exchange.specs.Meaning.{ItemValue, exchange, stray}
use Rattle.uds_exchange.specs.Order.{has_exchange}
use Rattle.uds_exchange.specs.proving.OpenExchange.{one_later, open_exchange_in}

pub has-more : (its : List ItemValue) (p : ItemValue) → has_exchange (p ∷ []) ≡ false → has_exchange (its ++ p ∷ []) ≡ has_exchange its
has-more [] p h = h
has-more (exchange r a ∷ its) p h = refl
has-more (stray d m ∷ its) p h = has-more its p h

pub has-last : (its : List ItemValue) (r : List ℕ) (a : Option (List ℕ)) → has_exchange (its ++ exchange r a ∷ []) ≡ true
has-last [] r a = refl
has-last (exchange q b ∷ its) r a = refl
has-last (stray d m ∷ its) r a = has-last its r a

-- the exchange that waits is the same after one more stray, and a new request waits
pub open_exchange-stray : (its : List ItemValue) (d : Dir) (m : List ℕ) → open_exchange_in (its ++ stray d m ∷ []) ≡ open_exchange_in its
open_exchange-stray [] d m = refl
open_exchange-stray (stray e n ∷ its) d m = ap one_later (open_exchange-stray its d m)
open_exchange-stray (exchange r (Some a) ∷ its) d m = ap one_later (open_exchange-stray its d m)
open_exchange-stray (exchange r None ∷ its) d m = rw (has-more its (stray d m) refl, open_exchange-stray its d m) refl

pub open_exchange-request : (its : List ItemValue) (r : List ℕ) → open_exchange_in (its ++ exchange r None ∷ []) ≡ Some (length its, r)
open_exchange-request [] r = refl
open_exchange-request (stray e n ∷ its) r = ap one_later (open_exchange-request its r)
open_exchange-request (exchange q (Some a) ∷ its) r = ap one_later (open_exchange-request its r)
open_exchange-request (exchange q None ∷ its) r = rw (has-last its r None, open_exchange-request its r) refl

pub one_later-none : (o : Option (ℕ × List ℕ)) → one_later o ≡ None → o ≡ None
one_later-none None h = refl
one_later-none (Some w) h = cc

pub one_later-some : (o : Option (ℕ × List ℕ)) (w : ℕ × List ℕ) → one_later o ≡ Some w
    → (v : ℕ × List ℕ) × (o ≡ Some v) × (w ≡ (suc v.0, v.1))
one_later-some None w h = cc
one_later-some (Some v) w h = (v, refl, same_Some _ _ (sym h))

-- at its place is an exchange without answer
pub open_exchange-at : (its : List ItemValue) (w : ℕ × List ℕ) → open_exchange_in its ≡ Some w → slice_get its w.0 ≡ Some (exchange w.1 None)
open_exchange-at [] w h = cc
open_exchange-at (stray e n ∷ its) w h = let v = one_later-some (open_exchange_in its) w h in rw v.2 (open_exchange-at its v.0 v.1)
open_exchange-at (exchange q (Some a) ∷ its) w h = let v = one_later-some (open_exchange_in its) w h in rw v.2 (open_exchange-at its v.0 v.1)
open_exchange-at (exchange q None ∷ its) w h =
    elim (cases_Bool (has_exchange its)) [
      | inl e ↦ (let v = one_later-some (open_exchange_in its) w (rw e at h) in rw v.2 (open_exchange-at its v.0 v.1))
      | inr e ↦ (let same : (0, q) ≡ w = same_Some _ _ (rw e at h) in rw (← same) refl)
    ]

pub no-exchange : (its : List ItemValue) → has_exchange its ≡ false → open_exchange_in its ≡ None
no-exchange [] h = refl
no-exchange (exchange r a ∷ its) h = cc
no-exchange (stray d m ∷ its) h = ap one_later (no-exchange its h)

pub has-set : (its : List ItemValue) (i : ℕ) (r : List ℕ) (a b : Option (List ℕ)) → slice_get its i ≡ Some (exchange r a)
    → has_exchange (slice_set its i (exchange r b)) ≡ has_exchange its
has-set [] i r a b h = refl
has-set (exchange q c ∷ its) zero r a b h = refl
has-set (stray d m ∷ its) zero r a b h = cc
has-set (exchange q c ∷ its) (suc i) r a b h = refl
has-set (stray d m ∷ its) (suc i) r a b h = has-set its i r a b h

-- once it has its answer nothing waits
pub open_exchange-answered : (its : List ItemValue) (w : ℕ × List ℕ) (a : List ℕ) → open_exchange_in its ≡ Some w
    → open_exchange_in (slice_set its w.0 (exchange w.1 (Some a))) ≡ None
open_exchange-answered [] w a h = cc
open_exchange-answered (stray e n ∷ its) w a h =
    let v = one_later-some (open_exchange_in its) w h in
    rw v.2 (ap one_later (open_exchange-answered its v.0 a v.1))
open_exchange-answered (exchange q (Some b) ∷ its) w a h =
    let v = one_later-some (open_exchange_in its) w h in
    rw v.2 (ap one_later (open_exchange-answered its v.0 a v.1))
open_exchange-answered (exchange q None ∷ its) w a h =
    elim (cases_Bool (has_exchange its)) [
      | inl e ↦ (let v = one_later-some (open_exchange_in its) w (rw e at h) in
          let more = has-set its v.0.0 v.0.1 None (Some a) (open_exchange-at its v.0 v.1) ∙ e in
          rw (v.2, more) (ap one_later (open_exchange-answered its v.0 a v.1)))
      | inr e ↦ (let same : (0, q) ≡ w = same_Some _ _ (rw e at h) in rw (← same) (ap one_later (no-exchange its e)))
    ]

-- the request that waits, and its first byte
abbrev pub request_of : Option (ℕ × List ℕ) → Option (List ℕ)
request_of w = option_map (λ w. w.1) w

abbrev pub sid_of : Option (ℕ × List ℕ) → Option ℕ
sid_of w = option_map (λ w. sid w.1) w

pub same-request : (w : Option (ℕ × List ℕ)) → request_of w ≡ request_of (one_later w)
same-request None = refl
same-request (Some w) = refl
