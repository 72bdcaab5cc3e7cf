-- One more message is placed among the messages of a meaning by its role.
use Rattle.std.specs.Prelude.{⊤}
use Rattle.std.proofs.Common.{◌≡◌, ℕ, true, false, List, [], ◌∷◌, ◌++◌, map, Option, Some, None, refl, ◌∙◌, ap, inl, inr}
use Rattle.std.specs.Prelude.{slice_set}
use Rattle.std.specs.List.{flat_map, list_any}
use Rattle.std.proofs.lemmas.Bool.{cases_Bool}
use Rattle.std.proofs.lemmas.Option.{same_Some}
use Rattle.direction.specs.Dir.{Message}
use Rattle.direction.specs.declared.Dir.TheVariants.{Tester, Unit}
use Rattle.uds_message.specs.Message.{is_request}
use Rattle.uds_exchange.specs.Meaning.{is_tester_request, is_answer_to, is_pending_reply_to, before_requests, Part, parts, strays_in}
use Rattle.uds_exchange.specs.Meaning.{ItemValue, exchange, stray, stray_of, items_of, meaning, flattened}
use Rattle.uds_exchange.specs.Roles.{behind_last_request, placed}
use Rattle.uds_exchange.specs.Order.{has_exchange}
use Rattle.uds_exchange.specs.proving.OpenExchange.{open_exchange_in}
use Rattle.uds_exchange.specs.proving.Pairing.{items_with_other}
use Rattle.uds_exchange.proofs.OpenExchange.{one_later-some}
use Rattle.uds_exchange.proofs.MeaningOfMore.{meaning_goes_on}
use Rattle.uds_exchange.proofs.RequestsInParts.{Quiet, quiet-before_requests, quiet-strays_in, Good, good-parts}
use Rattle.uds_exchange.proofs.MessagesOfParts.{flattened-push}
use Rattle.uds_exchange.proofs.Replies.{from-tester, from-unit}
use Rattle.uds_exchange.proofs.OneRole.{role_by, role_behind}

-- the exchanges have requests, and no stray is one
abbrev Sound : List ItemValue → Type 0
Sound [] = ⊤
Sound (exchange r a ∷ its) = (is_request r ≡ true) × Sound its
Sound (stray d m ∷ its) = (is_tester_request (d, m) ≡ false) × Sound its

sound-strays : (xs : List Message) → Quiet xs → Sound (map stray_of xs)
sound-strays [] h = tt
sound-strays (x ∷ xs) h = (h.0, sound-strays xs h.1)

sound-append : (its more : List ItemValue) → Sound its → Sound more → Sound (its ++ more)
sound-append [] more h k = k
sound-append (exchange r a ∷ its) more h k = (h.0, sound-append its more h.1 k)
sound-append (stray d m ∷ its) more h k = (h.0, sound-append its more h.1 k)

sound-parts : (ps : List Part) → Good ps → Sound (flat_map items_of ps)
sound-parts [] h = tt
sound-parts (p ∷ ps) h =
    let strays = strays_in p.request p.behind in (
      h.0,
      sound-append (map stray_of strays) (flat_map items_of ps)
          (sound-strays strays (quiet-strays_in p.request p.behind h.1)) (sound-parts ps h.2),
    )

sound-meaning : (M : List Message) → Sound (meaning M)
sound-meaning M =
    sound-append (map stray_of (before_requests M)) (flat_map items_of (parts M))
    (sound-strays (before_requests M) (quiet-before_requests M))
    (sound-parts (parts M) (good-parts M))

-- a list with an exchange has a request among its messages, and one without has none
any-request : (its : List ItemValue) → Sound its → list_any is_tester_request (flattened its) ≡ has_exchange its
any-request [] h = refl
any-request (exchange r None ∷ its) h = rw h.0 refl
any-request (exchange r (Some a) ∷ its) h = rw h.0 refl
any-request (stray d m ∷ its) h = rw h.0 (any-request its h.1)

open_exchange-has : (its : List ItemValue) (w : ℕ × List ℕ) → open_exchange_in its ≡ Some w → has_exchange its ≡ true
open_exchange-has [] w h = cc
open_exchange-has (exchange r a ∷ its) w h = refl
open_exchange-has (stray d m ∷ its) w h = let v = one_later-some (open_exchange_in its) w h in open_exchange-has its v.0 v.1

-- the answer of the exchange that waits stands after the last request
placed-answer : (its : List ItemValue) (w : ℕ × List ℕ) (a : List ℕ) → Sound its → open_exchange_in its ≡ Some w
    → flattened (slice_set its w.0 (exchange w.1 (Some a))) ≡ behind_last_request (flattened its) (Unit, a)
placed-answer [] w a s h = cc
placed-answer (stray d m ∷ its) w a s h =
    let v = one_later-some (open_exchange_in its) w h in
    let more = any-request its s.1 ∙ open_exchange-has its v.0 v.1 in
    rw (v.2, more) (ap (λ l. (d, m) ∷ l) (placed-answer its v.0 a s.1 v.1))
placed-answer (exchange q (Some b) ∷ its) w a s h =
    let v = one_later-some (open_exchange_in its) w h in
    let more = any-request its s.1 ∙ open_exchange-has its v.0 v.1 in
    rw (v.2, more) (ap (λ l. (Tester, q) ∷ (Unit, b) ∷ l) (placed-answer its v.0 a s.1 v.1))
placed-answer (exchange q None ∷ its) w a s h =
    elim (cases_Bool (has_exchange its)) [
      | inl e ↦
          (let v = one_later-some (open_exchange_in its) w (rw e at h) in
          let more = any-request its s.1 ∙ e in
          rw (v.2, more) (ap (λ l. (Tester, q) ∷ l) (placed-answer its v.0 a s.1 v.1)))
      | inr e ↦
          (let same : (0, q) ≡ w = same_Some _ _ (rw e at h) in
          let none = any-request its s.1 ∙ e in
          rw (← same, none, s.0) refl)
    ]

placed-by : (its : List ItemValue) (x : Message) (o : Option (ℕ × List ℕ)) → Sound its → open_exchange_in its ≡ o
    → flattened (items_with_other o its x) ≡ placed (role_by o x) (flattened its) x
placed-by its x None s h = flattened-push its (stray_of x) x refl
placed-by its x (Some w) s h =
    elim (cases_Bool (is_answer_to w.1 x)) [
      | inl e ↦ rw e (placed-answer its w x.1 s h ∙ ap (behind_last_request (flattened its)) (from-unit w.1 x e))
      | inr e ↦ elim (cases_Bool (is_pending_reply_to w.1 x)) [
        | inl q ↦ rw (e, q) refl
        | inr q ↦ rw (e, q) (flattened-push its (stray_of x) x refl)
      ]
    ]

pub flattened-meaning-append : (M : List Message) (x : Message)
    → flattened (meaning (M ++ x ∷ [])) ≡ placed (role_behind M x) (flattened (meaning M)) x
flattened-meaning-append M x =
    ap flattened (meaning_goes_on M x) ∙ elim (cases_Bool (is_tester_request x)) [
      | inl e ↦ rw e (flattened-push (meaning M) (exchange x.1 None) x (ap (λ y. y ∷ []) (from-tester x e)))
      | inr e ↦ rw e (placed-by (meaning M) x (open_exchange_in (meaning M)) (sound-meaning M) refl)
    ]
