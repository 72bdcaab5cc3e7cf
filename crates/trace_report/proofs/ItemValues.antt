-- The items that rows tell, by what each row is to them: a request, an answer, a stray, or nothing.
use Rattle.std.proofs.Common.{◌≡◌, ℕ, Bool, true, false, List, [], ◌∷◌, ◌++◌, Option, Some, None, map}
use Rattle.std.proofs.Common.{option_map, suc, refl, ap, sym, subst, ◌∙◌, inl, inr, append-nil}
use Rattle.std.specs.Prelude.{if◌then◌else◌, slice_set}
use Rattle.std.proofs.lemmas.Bool.{cases_Bool}
use Rattle.std.proofs.lemmas.Option.{none-some, same_Some}
use Rattle.direction.specs.Dir.{Message}
use Rattle.direction.specs.declared.Dir.{Dir}
use Rattle.direction.specs.declared.Dir.TheVariants as dir
use Rattle.uds_exchange.specs.Meaning.{ItemValue, exchange, stray, is_tester_request, is_answer_to, is_pending_reply_to}
use Rattle.uds_exchange.specs.OneMessage.{step_if_open, step_of}
use Rattle.uds_exchange.specs.Order.{has_exchange}
use Rattle.uds_exchange.specs.declared.step.Step.{Step}
use Rattle.uds_exchange.specs.declared.step.Step.TheVariants as becomes
use Rattle.uds_exchange.specs.proving.OpenExchange.{one_later, open_exchange_in, open_sid_in}
use Rattle.uds_exchange.specs.proving.Pairing.{items_with, items_with_other}
use Rattle.uds_message.specs.Message.{is_keep_alive, is_negative_response, sid}
use Rattle.trace_report.specs.Roles.{role_of_step}
use Rattle.trace_report.specs.Items.{RowMessageValue, answer_in, item_value, items_in}
use Rattle.trace_report.specs.Rows.{RowValue, message, no_answer, dropped, ended, unfinished}
use Rattle.trace_report.specs.declared.row.MessagePlace.{MessagePlace}
use Rattle.trace_report.specs.declared.roles.MessageRole.TheVariants as role

-- What a row is to items.
pub data RowKind : Type 0 where
  asks : List ℕ → RowKind
  answers : List ℕ → RowKind
  strays : Dir → List ℕ → RowKind
  nothing : RowKind

abbrev pub kind : RowValue → RowKind
kind (message role.Request d place bytes) = asks bytes
kind (message (role.Positive asked) d place bytes) = answers bytes
kind (message (role.Negative asked) d place bytes) = answers bytes
kind (message (role.Pending asked) d place bytes) = nothing
kind (message role.KeepAlive d place bytes) = strays d bytes
kind (message role.Stray d place bytes) = strays d bytes
kind (no_answer number silence) = nothing
kind (dropped place d linked why) = nothing
kind (ended place end) = nothing
kind (unfinished d line len) = nothing

-- the answer, and the values of items, by kinds
abbrev pub answer_of : List RowKind → Option (List ℕ)
answer_of [] = None
answer_of (asks bytes ∷ rest) = None
answer_of (answers bytes ∷ rest) = Some bytes
answer_of (strays d bytes ∷ rest) = answer_of rest
answer_of (nothing ∷ rest) = answer_of rest

abbrev pub values_of : List RowKind → List ItemValue
values_of [] = []
values_of (asks bytes ∷ rest) = exchange bytes (answer_of rest) ∷ values_of rest
values_of (answers bytes ∷ rest) = values_of rest
values_of (strays d bytes ∷ rest) = stray d bytes ∷ values_of rest
values_of (nothing ∷ rest) = values_of rest

abbrev pub bytes_in : Option RowMessageValue → Option (List ℕ)
bytes_in reply = option_map (λ (sent : RowMessageValue). sent.bytes) reply

answer-by-kinds : (rows : List RowValue) → bytes_in (answer_in rows) ≡ answer_of (map kind rows)
answer-by-kinds [] = refl
answer-by-kinds (message role.Request d place bytes ∷ rest) = refl
answer-by-kinds (message (role.Positive asked) d place bytes ∷ rest) = refl
answer-by-kinds (message (role.Negative asked) d place bytes ∷ rest) = refl
answer-by-kinds (message (role.Pending asked) d place bytes ∷ rest) = answer-by-kinds rest
answer-by-kinds (message role.KeepAlive d place bytes ∷ rest) = answer-by-kinds rest
answer-by-kinds (message role.Stray d place bytes ∷ rest) = answer-by-kinds rest
answer-by-kinds (no_answer number silence ∷ rest) = answer-by-kinds rest
answer-by-kinds (dropped place d linked why ∷ rest) = answer-by-kinds rest
answer-by-kinds (ended place end ∷ rest) = answer-by-kinds rest
answer-by-kinds (unfinished d line len ∷ rest) = answer-by-kinds rest

pub values-by-kinds : (rows : List RowValue) → map item_value (items_in rows) ≡ values_of (map kind rows)
values-by-kinds [] = refl
values-by-kinds (message role.Request d place bytes ∷ rest) = (λ i. exchange bytes (answer-by-kinds rest i) ∷ values-by-kinds rest i)
values-by-kinds (message (role.Positive asked) d place bytes ∷ rest) = values-by-kinds rest
values-by-kinds (message (role.Negative asked) d place bytes ∷ rest) = values-by-kinds rest
values-by-kinds (message (role.Pending asked) d place bytes ∷ rest) = values-by-kinds rest
values-by-kinds (message role.KeepAlive d place bytes ∷ rest) = ap (λ l. stray d bytes ∷ l) (values-by-kinds rest)
values-by-kinds (message role.Stray d place bytes ∷ rest) = ap (λ l. stray d bytes ∷ l) (values-by-kinds rest)
values-by-kinds (no_answer number silence ∷ rest) = values-by-kinds rest
values-by-kinds (dropped place d linked why ∷ rest) = values-by-kinds rest
values-by-kinds (ended place end ∷ rest) = values-by-kinds rest
values-by-kinds (unfinished d line len ∷ rest) = values-by-kinds rest

-- More rows, among which is no answer to what stands before them.

no-answer-behind : (ks tail : List RowKind) → answer_of tail ≡ None → answer_of (ks ++ tail) ≡ answer_of ks
no-answer-behind [] tail none = none
no-answer-behind (asks bytes ∷ rest) tail none = refl
no-answer-behind (answers bytes ∷ rest) tail none = refl
no-answer-behind (strays d bytes ∷ rest) tail none = no-answer-behind rest tail none
no-answer-behind (nothing ∷ rest) tail none = no-answer-behind rest tail none

pub values-behind : (ks tail : List RowKind) → answer_of tail ≡ None → values_of (ks ++ tail) ≡ values_of ks ++ values_of tail
values-behind [] tail none = refl
values-behind (asks bytes ∷ rest) tail none = (λ i. exchange bytes (no-answer-behind rest tail none i) ∷ values-behind rest tail none i)
values-behind (answers bytes ∷ rest) tail none = values-behind rest tail none
values-behind (strays d bytes ∷ rest) tail none = ap (λ l. stray d bytes ∷ l) (values-behind rest tail none)
values-behind (nothing ∷ rest) tail none = values-behind rest tail none

-- One more row, with an answer.

found-behind : (ks tail : List RowKind) (reply : List ℕ) → answer_of ks ≡ Some reply → answer_of (ks ++ tail) ≡ Some reply
found-behind [] tail reply found = absurd (none-some reply found)
found-behind (asks bytes ∷ rest) tail reply found = absurd (none-some reply found)
found-behind (answers bytes ∷ rest) tail reply found = found
found-behind (strays d bytes ∷ rest) tail reply found = found-behind rest tail reply found
found-behind (nothing ∷ rest) tail reply found = found-behind rest tail reply found

-- another request comes before the answer
stopped : (ks tail : List RowKind) → has_exchange (values_of ks) ≡ true → answer_of ks ≡ None → answer_of (ks ++ tail) ≡ None
stopped [] tail has none = absurd (cc has)
stopped (asks bytes ∷ rest) tail has none = refl
stopped (answers bytes ∷ rest) tail has none = absurd (none-some bytes (sym none))
stopped (strays d bytes ∷ rest) tail has none = stopped rest tail has none
stopped (nothing ∷ rest) tail has none = stopped rest tail has none

-- or none does
open-to : (ks tail : List RowKind) → has_exchange (values_of ks) ≡ false → answer_of ks ≡ None → answer_of (ks ++ tail) ≡ answer_of tail
open-to [] tail has none = refl
open-to (asks bytes ∷ rest) tail has none = absurd (cc has)
open-to (answers bytes ∷ rest) tail has none = absurd (none-some bytes (sym none))
open-to (strays d bytes ∷ rest) tail has none = open-to rest tail has none
open-to (nothing ∷ rest) tail has none = open-to rest tail has none

module _ (reply : List ℕ) where
  abbrev more : List RowKind → List RowKind
  more ks = ks ++ answers reply ∷ []

  still : (ks : List RowKind) → has_exchange (values_of ks) ≡ false → values_of (more ks) ≡ values_of ks
  still [] has = refl
  still (asks bytes ∷ rest) has = absurd (cc has)
  still (answers bytes ∷ rest) has = still rest has
  still (strays d bytes ∷ rest) has = ap (λ l. stray d bytes ∷ l) (still rest has)
  still (nothing ∷ rest) has = still rest has

  -- the answer is given to the exchange that waits
  abbrev Answered : List ItemValue → List ItemValue → Type 0
  Answered items now = (w : ℕ × List ℕ) → open_exchange_in items ≡ Some w → now ≡ slice_set items w.0 (exchange w.1 (Some reply))

  later-by : (x : ItemValue) (items now : List ItemValue) (found : Option (ℕ × List ℕ)) → open_exchange_in items ≡ found → Answered items now
      → (w : ℕ × List ℕ) → one_later found ≡ Some w → x ∷ now ≡ slice_set (x ∷ items) w.0 (exchange w.1 (Some reply))
  later-by x items now None is goes w waits = absurd (none-some w waits)
  later-by x items now (Some v) is goes w waits =
      subst (λ (u : ℕ × List ℕ). x ∷ now ≡ slice_set (x ∷ items) u.0 (exchange u.1 (Some reply))) (same_Some (suc v.0, v.1) w waits)
      (ap (λ l. x ∷ l) (goes v is))

  later : (x : ItemValue) (items now : List ItemValue) → Answered items now
      → (w : ℕ × List ℕ) → one_later (open_exchange_in items) ≡ Some w → x ∷ now ≡ slice_set (x ∷ items) w.0 (exchange w.1 (Some reply))
  later x items now goes w waits = later-by x items now (open_exchange_in items) refl goes w waits

  asked : (bytes : List ℕ) (ks : List RowKind) (found : Option (List ℕ)) → answer_of ks ≡ found → Answered (values_of ks) (values_of (more ks))
      → Answered (exchange bytes found ∷ values_of ks) (exchange bytes (answer_of (more ks)) ∷ values_of (more ks))
  asked bytes ks (Some old) is goes w waits =
      ap (λ o. exchange bytes o ∷ values_of (more ks)) (found-behind ks (answers reply ∷ []) old is)
      ∙ later (exchange bytes (Some old)) (values_of ks) (values_of (more ks)) goes w waits
  asked bytes ks None is goes w waits = elim (cases_Bool (has_exchange (values_of ks))) [
    | inl has ↦
        let waits_later : one_later (open_exchange_in (values_of ks)) ≡ Some w =
        sym (ap (λ (b : Bool). if b then one_later (open_exchange_in (values_of ks)) else Some (0, bytes)) has) ∙ waits in
        ap (λ o. exchange bytes o ∷ values_of (more ks)) (stopped ks (answers reply ∷ []) has is)
        ∙ later (exchange bytes None) (values_of ks) (values_of (more ks)) goes w waits_later
    | inr none ↦
        let waits_here : Some (0, bytes) ≡ Some w =
        sym (ap (λ (b : Bool). if b then one_later (open_exchange_in (values_of ks)) else Some (0, bytes)) none) ∙ waits in
        subst (λ (u : ℕ × List ℕ). exchange bytes (answer_of (more ks)) ∷ values_of (more ks) ≡ slice_set (exchange bytes None ∷ values_of ks) u.0 (exchange u.1 (Some reply)))
        (same_Some (0, bytes) w waits_here)
        (λ i. exchange bytes (open-to ks (answers reply ∷ []) none is i) ∷ still ks none i)
  ]

  pub answered : (ks : List RowKind) → Answered (values_of ks) (values_of (more ks))
  answered [] w waits = absurd (none-some w waits)
  answered (asks bytes ∷ rest) w waits = asked bytes rest (answer_of rest) refl (answered rest) w waits
  answered (answers bytes ∷ rest) w waits = answered rest w waits
  answered (strays d bytes ∷ rest) w waits = later (stray d bytes) (values_of rest) (values_of (more rest)) (answered rest) w waits
  answered (nothing ∷ rest) w waits = answered rest w waits

-- One more message, by what becomes of it.

abbrev pub kind_of_step : Step → Message → RowKind
kind_of_step (becomes.Request service) x = asks x.1
kind_of_step becomes.Answer x = answers x.1
kind_of_step becomes.Removed x = nothing
kind_of_step becomes.Hold x = strays x.0 x.1
kind_of_step becomes.Pass x = strays x.0 x.1

pub kind-of-message : (asked : ℕ) (step : Step) (d : Dir) (place : MessagePlace) (bytes : List ℕ)
    → kind (message (role_of_step asked step d bytes) d place bytes) ≡ kind_of_step step (d, bytes)
kind-of-message asked (becomes.Request service) d place bytes = refl
kind-of-message asked becomes.Answer d place bytes = elim (cases_Bool (is_negative_response bytes)) [ inl e ↦ rw e refl | inr e ↦ rw e refl ]
kind-of-message asked becomes.Removed d place bytes = refl
kind-of-message asked becomes.Hold dir.Tester place bytes = elim (cases_Bool (is_keep_alive bytes)) [ inl e ↦ rw e refl | inr e ↦ rw e refl ]
kind-of-message asked becomes.Hold dir.Unit place bytes = refl
kind-of-message asked becomes.Pass dir.Tester place bytes = elim (cases_Bool (is_keep_alive bytes)) [ inl e ↦ rw e refl | inr e ↦ rw e refl ]
kind-of-message asked becomes.Pass dir.Unit place bytes = refl

module _ (ks : List RowKind) (x : Message) where
  abbrev with_kind : RowKind → List ItemValue
  with_kind k = values_of (ks ++ k ∷ [])

  stays : with_kind nothing ≡ values_of ks
  stays = values-behind ks (nothing ∷ []) refl ∙ append-nil (values_of ks)

  joined-by : (o : Option (ℕ × List ℕ)) → open_exchange_in (values_of ks) ≡ o
      → with_kind (kind_of_step (step_if_open (option_map (λ place. sid place.1) o) x) x) ≡ items_with_other o (values_of ks) x
  joined-by None is = values-behind ks (strays x.0 x.1 ∷ []) refl
  joined-by (Some w) is = elim (cases_Bool (is_answer_to w.1 x)) [
    | inl e ↦ rw e (answered x.1 ks w is)
    | inr e ↦ elim (cases_Bool (is_pending_reply_to w.1 x)) [
      | inl p ↦ rw (e, p) stays
      | inr p ↦ rw (e, p) (values-behind ks (strays x.0 x.1 ∷ []) refl)
    ]
  ]

  pub joined : with_kind (kind_of_step (step_of (open_sid_in (values_of ks)) x) x) ≡ items_with (values_of ks) x
  joined = elim (cases_Bool (is_tester_request x)) [
    | inl e ↦ rw e (values-behind ks (asks x.1 ∷ []) refl)
    | inr e ↦ rw e (joined-by (open_exchange_in (values_of ks)) refl)
  ]
