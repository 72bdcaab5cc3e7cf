-- Rules that leave out no message keep the items of a meaning, each under them.
use Rattle.std.proofs.Common.{◌≡◌, ℕ, ◌&&◌, Bool, true, false, not, List, [], ◌∷◌, ◌++◌, length, drop, map, Option, Some, inl, inr, refl, ap, sym, ◌∙◌}
use Rattle.std.specs.Prelude.{option_map}
use Rattle.std.specs.List.{flat_map}
use Rattle.std.proofs.lemmas.Bool.{and_parts, cases_Bool, false≢true}
use Rattle.std.proofs.lemmas.List.{map-append}
use Rattle.direction.specs.Dir.{Message}
use Rattle.direction.specs.declared.Dir.TheVariants.{Tester, Unit}
use Rattle.uds_message.specs.declared.message.Answer.{Answer}
use Rattle.uds_message.specs.declared.message.Answer.TheVariants.{Final, Pending, No}
use Rattle.uds_message.specs.declared.message.TesterKind.{TesterKind}
use Rattle.uds_message.specs.declared.message.TesterKind.TheVariants.{Request, KeepAlive, Other}
use Rattle.uds_message.specs.Message.{sid, is_request, is_keep_alive, is_final_for, is_pending_for, tester_kind, answer_to}
use Rattle.uds_exchange.specs.Meaning.{is_from_tester, is_tester_request, is_answer_to, is_pending_reply_to, before_requests, Part, part, parts, answer, strays_in, exchange, stray, stray_of, items_of, meaning}
use Rattle.uds_rules.specs.declared.rule.Deed.{Deed}
use Rattle.uds_rules.specs.declared.rule.Deed.TheVariants as deed
use Rattle.uds_rules.specs.Laws.{IsSameKind}
use Rattle.uds_rules.specs.Mask.{masked}
use Rattle.uds_rules.specs.Rule.{RuleValue, masks, speaks_of, made_by, made_of}
use Rattle.uds_rules.specs.Under.{sent_as, under}
use Rattle.uds_rules.proofs.Promises.{mask_keeps_kind}
use Rattle.trace_log.specs.Laws.{MasksKeepItems}
use Rattle.trace_log.specs.MaskedItems.{only_mask, made_or_same, message_under, item_by}

-- ---- what a message is, by its kind

asks : TesterKind → Bool
asks Request = true
asks KeepAlive = false
asks Other = false

is_asked : (message : List ℕ) → is_request message ≡ asks (tester_kind message)
unfolding asks
is_asked message =
    elim (cases_Bool (is_request message)) [
      | inl is ↦ rw is refl
      | inr isnt ↦
          elim (cases_Bool (is_keep_alive message)) [
            | inl alive ↦ rw (isnt, alive) refl
            | inr silent ↦ rw (isnt, silent) refl
          ]
    ]

ends : Answer → Bool
ends Final = true
ends Pending = false
ends No = false

waits : Answer → Bool
waits Final = false
waits Pending = true
waits No = false

is_ended : (service : ℕ) (message : List ℕ) → is_final_for service message ≡ ends (answer_to service message)
unfolding ends
is_ended service message =
    elim (cases_Bool (is_final_for service message)) [
      | inl is ↦ rw is refl
      | inr isnt ↦
          elim (cases_Bool (is_pending_for service message)) [
            | inl pending ↦ rw (isnt, pending) refl
            | inr none ↦ rw (isnt, none) refl
          ]
    ]

is_waited : (service : ℕ) (message : List ℕ) → is_final_for service message ≡ false → is_pending_for service message ≡ waits (answer_to service message)
unfolding waits
is_waited service message isnt =
    elim (cases_Bool (is_pending_for service message)) [
      | inl pending ↦ rw (isnt, pending) refl
      | inr none ↦ rw (isnt, none) refl
    ]

-- ---- what is made of each message is of its kind

module _ (shown : List ℕ → List ℕ) (same : (message : List ℕ) → IsSameKind message (shown message)) where
  abbrev sent_so : Message → Message
  sent_so message = (message.0, shown message.1)

  abbrev part_so : Part → Part
  part_so this = part (shown this.request) (map sent_so this.behind)

  same_request : (x : Message) → is_tester_request (sent_so x) ≡ is_tester_request x
  same_request x = ap (λ is. is_from_tester x.0 && is) (is_asked (shown x.1) ∙ ap asks ((same x.1).kind) ∙ sym (is_asked x.1))

  same_final : (service : ℕ) (message : List ℕ) → is_final_for service (shown message) ≡ is_final_for service message
  same_final service message = is_ended service (shown message) ∙ ap ends ((same message).answers service) ∙ sym (is_ended service message)

  same_pending : (service : ℕ) (message : List ℕ) → is_final_for service message ≡ false
      → is_pending_for service (shown message) ≡ is_pending_for service message
  same_pending service message isnt =
      is_waited service (shown message) (same_final service message ∙ isnt)
      ∙ ap waits ((same message).answers service) ∙ sym (is_waited service message isnt)

  same_answer : (request : List ℕ) (x : Message) → is_answer_to (shown request) (sent_so x) ≡ is_answer_to request x
  same_answer request x =
      ap (λ service. not (is_from_tester x.0) && is_final_for service (shown x.1)) ((same request).service)
      ∙ ap (λ is. not (is_from_tester x.0) && is) (same_final (sid request) x.1)

  same_wait : (request : List ℕ) (x : Message) → is_answer_to request x ≡ false
      → is_pending_reply_to (shown request) (sent_so x) ≡ is_pending_reply_to request x
  same_wait request (Tester, message) isnt = refl
  same_wait request (Unit, message) isnt =
      ap (λ service. is_pending_for service (shown message)) ((same request).service) ∙ same_pending (sid request) message isnt

  -- ---- so lists of messages are cut and paired alike

  before_so : (M : List Message) → before_requests (map sent_so M) ≡ map sent_so (before_requests M)
  before_so [] = refl
  before_so (x ∷ later) =
      elim (cases_Bool (is_tester_request x)) [
        | inl is ↦ rw (same_request x ∙ is, is) refl
        | inr isnt ↦ rw (same_request x ∙ isnt, isnt) (ap (λ l. sent_so x ∷ l) (before_so later))
      ]

  parts_so : (M : List Message) → parts (map sent_so M) ≡ map part_so (parts M)
  parts_so [] = refl
  parts_so (x ∷ later) =
      elim (cases_Bool (is_tester_request x)) [
        | inl is ↦ rw (same_request x ∙ is, is)
            (ap (λ behind. part (shown x.1) behind ∷ parts (map sent_so later)) (before_so later)
            ∙ ap (λ l. part (shown x.1) (map sent_so (before_requests later)) ∷ l) (parts_so later))
        | inr isnt ↦ rw (same_request x ∙ isnt, isnt) (parts_so later)
      ]

  answer_so : (request : List ℕ) (M : List Message) → answer (shown request) (map sent_so M) ≡ option_map shown (answer request M)
  answer_so request [] = refl
  answer_so request (x ∷ later) =
      elim (cases_Bool (is_answer_to request x)) [
        | inl is ↦ rw (same_answer request x ∙ is, is) refl
        | inr isnt ↦ rw (same_answer request x ∙ isnt, isnt) (answer_so request later)
      ]

  strays_so : (request : List ℕ) (M : List Message) → strays_in (shown request) (map sent_so M) ≡ map sent_so (strays_in request M)
  strays_so request [] = refl
  strays_so request (x ∷ later) =
      elim (cases_Bool (is_answer_to request x)) [
        | inl is ↦ rw (same_answer request x ∙ is, is) refl
        | inr isnt ↦
            elim (cases_Bool (is_pending_reply_to request x)) [
              | inl waits ↦ rw (same_answer request x ∙ isnt, isnt, same_wait request x isnt ∙ waits, waits) (strays_so request later)
              | inr none ↦ rw (same_answer request x ∙ isnt, isnt, same_wait request x isnt ∙ none, none)
                  (ap (λ l. sent_so x ∷ l) (strays_so request later))
            ]
      ]

  strays_are_so : (M : List Message) → map stray_of (map sent_so M) ≡ map (item_by shown) (map stray_of M)
  strays_are_so [] = refl
  strays_are_so (x ∷ later) = ap (λ l. stray x.0 (shown x.1) ∷ l) (strays_are_so later)

  items_so : (this : Part) → items_of (part_so this) ≡ map (item_by shown) (items_of this)
  items_so this =
      ap (λ reply. exchange (shown this.request) reply ∷ map stray_of (strays_in (shown this.request) (map sent_so this.behind)))
      (answer_so this.request this.behind)
      ∙ ap (λ l. exchange (shown this.request) (option_map shown (answer this.request this.behind)) ∷ l)
      (ap (map stray_of) (strays_so this.request this.behind) ∙ strays_are_so (strays_in this.request this.behind))

  all_items_so : (all : List Part) → flat_map items_of (map part_so all) ≡ map (item_by shown) (flat_map items_of all)
  all_items_so [] = refl
  all_items_so (this ∷ later) =
      ap (λ l. l ++ flat_map items_of (map part_so later)) (items_so this)
      ∙ ap (λ l. map (item_by shown) (items_of this) ++ l) (all_items_so later)
      ∙ sym (map-append (item_by shown) (items_of this) (flat_map items_of later))

  meaning_so : (M : List Message) → meaning (map sent_so M) ≡ map (item_by shown) (meaning M)
  meaning_so M =
      ap (λ l. map stray_of l ++ flat_map items_of (parts (map sent_so M))) (before_so M)
      ∙ ap (λ l. l ++ flat_map items_of (parts (map sent_so M))) (strays_are_so (before_requests M))
      ∙ ap (λ all. map (item_by shown) (map stray_of (before_requests M)) ++ flat_map items_of all) (parts_so M)
      ∙ ap (λ l. map (item_by shown) (map stray_of (before_requests M)) ++ l) (all_items_so (parts M))
      ∙ sym (map-append (item_by shown) (map stray_of (before_requests M)) (flat_map items_of (parts M)))

-- ---- rules that only mask make something of each message

by_mask : (this : Deed) (prefix message : List ℕ) → masks this ≡ true → (shown : List ℕ) × (made_by this prefix message ≡ Some shown)
by_mask deed.Drop prefix message masking = absurd (false≢true masking)
by_mask (deed.Mask mask) prefix message masking = (prefix ++ masked mask (drop (length prefix) message), refl)

something : (rules : List RuleValue) (message : List ℕ) → only_mask rules ≡ true → (shown : List ℕ) × (made_of rules message ≡ Some shown)
something [] message masking = (message, refl)
something (rule ∷ rules) message masking =
    let both = and_parts (masks rule.deed) (only_mask rules) masking in
    elim (cases_Bool (speaks_of rule message)) [
      | inl speaks ↦ rw speaks (by_mask rule.deed rule.prefix message both.0)
      | inr silent ↦ rw silent (something rules message both.1)
    ]

made_so : (message shown : List ℕ) (made : Option (List ℕ)) → made ≡ Some shown → made ≡ Some (made_or_same message made)
made_so message shown made is = is ∙ ap Some (sym (ap (made_or_same message) is))

is_made : (rules : List RuleValue) (message : List ℕ) → only_mask rules ≡ true → made_of rules message ≡ Some (message_under rules message)
is_made rules message masking =
    let some = something rules message masking in
    made_so message some.0 (made_of rules message) some.1

under_masks : (rules : List RuleValue) → only_mask rules ≡ true → (M : List Message) → under rules M ≡ map (λ message. (message.0, message_under rules message.1)) M
under_masks rules masking [] = refl
under_masks rules masking (message ∷ later) =
    ap (λ made. sent_as message.0 made ++ under rules later) (is_made rules message.1 masking)
    ∙ ap (λ l. (message.0, message_under rules message.1) ∷ l) (under_masks rules masking later)

pub masks_keep_items : MasksKeepItems
masks_keep_items rules legal masking M =
    ap meaning (under_masks rules masking M)
    ∙ meaning_so (message_under rules)
    (λ message. mask_keeps_kind rules legal message (message_under rules message) (is_made rules message masking)) M
