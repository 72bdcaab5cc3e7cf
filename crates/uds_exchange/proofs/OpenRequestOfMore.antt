-- What one more message does to the open request, and to what is removed.
use Rattle.std.proofs.Common.{◌≡◌, ℕ, true, false, List, [], ◌∷◌, ◌++◌, Option, Some, None, refl, sym, ◌∙◌, ap, cond, inl, inr}
use Rattle.std.proofs.lemmas.Bool.{cases_Bool}
use Rattle.direction.specs.Dir.{Message}
use Rattle.direction.specs.declared.Dir.TheVariants as dir
use Rattle.uds_message.specs.Message.{is_request}
use Rattle.uds_exchange.specs.Laws.{open_with, OpenRequestGoesOn, removed_with, RemovedGoOn}
use Rattle.uds_exchange.specs.Meaning.{ItemValue, exchange, is_tester_request, is_answer_to, is_pending_reply_to, meaning, removed_messages}
use Rattle.uds_exchange.specs.proving.OpenExchange.{open_exchange_in}
use Rattle.uds_exchange.specs.proving.Pairing.{items_with_other, items_with}
use Rattle.uds_exchange.specs.Roles.{as_request, those_removed}
use Rattle.uds_exchange.proofs.OpenRequests.{open-request-waits}
use Rattle.uds_exchange.proofs.MeaningOfMore.{meaning_goes_on}
use Rattle.uds_exchange.proofs.RemovedByRole.{removed_messages-append}
use Rattle.uds_exchange.proofs.OneRole.{role_by}
use Rattle.uds_exchange.proofs.OpenExchange.{request_of, open_exchange-stray, open_exchange-request, open_exchange-answered}

-- ---- the open request

request-opens : (o : Option (List ℕ)) (x : Message) → is_tester_request x ≡ true → Some x.1 ≡ open_with o x
request-opens None x e = rw e refl
request-opens (Some request) x e = rw e refl

waits-by : (its : List ItemValue) (x : Message) (w : Option (ℕ × List ℕ)) → is_tester_request x ≡ false → open_exchange_in its ≡ w
    → request_of (open_exchange_in (items_with_other w its x)) ≡ open_with (request_of w) x
waits-by its x None r h = rw (r, open_exchange-stray its x.0 x.1, h) refl
waits-by its x (Some w) r h =
    elim (cases_Bool (is_answer_to w.1 x)) [
      | inl e ↦ rw (r, e, open_exchange-answered its w x.1 h) refl
      | inr e ↦ elim (cases_Bool (is_pending_reply_to w.1 x)) [
        | inl q ↦ rw (r, e, q, h) refl
        | inr q ↦ rw (r, e, q, open_exchange-stray its x.0 x.1, h) refl
      ]
    ]

waits-with : (its : List ItemValue) (x : Message) → request_of (open_exchange_in (items_with its x)) ≡ open_with (request_of (open_exchange_in its)) x
waits-with its x =
    elim (cases_Bool (is_tester_request x)) [
      | inl e ↦ (let begun : items_with its x ≡ its ++ exchange x.1 None ∷ [] = rw e refl in
          ap (λ l. request_of (open_exchange_in l)) begun ∙ ap request_of (open_exchange-request its x.1)
          ∙ request-opens (request_of (open_exchange_in its)) x e)
      | inr e ↦ (let by : items_with its x ≡ items_with_other (open_exchange_in its) its x = rw e refl in
          ap (λ l. request_of (open_exchange_in l)) by ∙ waits-by its x (open_exchange_in its) e refl)
    ]

pub open_request_goes_on : OpenRequestGoesOn
open_request_goes_on M x =
    open-request-waits (meaning (M ++ x ∷ []))
    ∙ ap (λ its. request_of (open_exchange_in its)) (meaning_goes_on M x)
    ∙ waits-with (meaning M) x
    ∙ ap (λ o. open_with o x) (sym (open-request-waits (meaning M)))

-- ---- what is removed

removed-by-role : (w : Option (ℕ × List ℕ)) (x : Message)
    → those_removed (x ∷ []) (cond (is_tester_request x) as_request (role_by w x) ∷ []) ≡ removed_with (request_of w) x
removed-by-role None (dir.Tester, bytes) = elim (cases_Bool (is_request bytes)) [ inl e ↦ rw e refl | inr e ↦ rw e refl ]
removed-by-role (Some w) (dir.Tester, bytes) = elim (cases_Bool (is_request bytes)) [ inl e ↦ rw e refl | inr e ↦ rw e refl ]
removed-by-role None (dir.Unit, bytes) = refl
removed-by-role (Some w) (dir.Unit, bytes) =
    elim (cases_Bool (is_answer_to w.1 (dir.Unit, bytes))) [
      | inl e ↦ rw e refl
      | inr e ↦ elim (cases_Bool (is_pending_reply_to w.1 (dir.Unit, bytes))) [ inl q ↦ rw (e, q) refl | inr q ↦ rw (e, q) refl ]
    ]

pub removed_go_on : RemovedGoOn
removed_go_on M x =
    removed_messages-append M x
    ∙ ap (λ l. removed_messages M ++ l) (removed-by-role (open_exchange_in (meaning M)) x
    ∙ ap (λ o. removed_with o x) (sym (open-request-waits (meaning M))))
