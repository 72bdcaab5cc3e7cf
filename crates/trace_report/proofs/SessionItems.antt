-- The items that the rows of a session tell are what its messages mean.
use Rattle.std.proofs.Common.{◌≡◌, ℕ, Bool, List, [], ◌∷◌, ◌++◌, Option, Some, None, map, refl, ap, sym, subst, ◌∙◌, append_assoc, append-nil}
use Rattle.std.specs.Prelude.{⊤}
use Rattle.std.proofs.lemmas.List.{map-append}
use Rattle.direction.specs.Dir.{Message}
use Rattle.direction.specs.declared.Dir.{Dir}
use Rattle.direction.specs.declared.Dir.TheVariants as dir
use Rattle.isotp_receive.specs.Channels.{dir_of}
use Rattle.isotp_receive.specs.declared.TheConstants.{MESSAGE_LIMIT}
use Rattle.isotp_receive.specs.declared.event.Ended.{Ended}
use Rattle.isotp_receive.specs.StandingReception.{StandingReception, receptions_after}
use Rattle.isotp_receive.specs.Trace.{Entry}
use Rattle.isotp_receive.specs.Verdict.{VerdictValue, message, began, stored, flowed, dropped, told_message, verdict}
use Rattle.trace_log.specs.Messages.{messages_under}
use Rattle.trace_run.proofs.Promises.{messages_next}
use Rattle.uds_exchange.proofs.Promises.{meaning_goes_on, step_by_items}
use Rattle.uds_exchange.specs.Meaning.{meaning}
use Rattle.uds_exchange.specs.Judging.{step_after}
use Rattle.uds_exchange.specs.OneMessage.{step_of}
use Rattle.uds_exchange.specs.Order.{open_request}
use Rattle.uds_exchange.specs.declared.step.Step.{Step}
use Rattle.uds_exchange.specs.declared.step.Step.TheVariants as becomes
use Rattle.uds_exchange.specs.proving.OpenExchange.{open_sid_in}
use Rattle.uds_exchange.specs.proving.Pairing.{items_with}
use Rattle.uds_rules.specs.Rule.{RuleValue, made_of}
use Rattle.uds_rules.specs.Under.{sent_as, under}
use Rattle.trace_report.specs.Events.{asked_all_in, asked_in, closing_before, closing_rows, end_rows, ended_rows, ends_nothing}
use Rattle.trace_report.specs.Events.{left_rows, message_place, rows_of, standing_row, verdict_rows, waiting_row}
use Rattle.trace_report.specs.Roles.{role_of_step}
use Rattle.trace_report.specs.Laws.{ItemsAreTheMeaning}
use Rattle.trace_report.specs.Page.{all_rows}
use Rattle.trace_report.specs.Rows as row
use Rattle.trace_report.proofs.ItemValues.{RowKind, asks, answers, strays, nothing, kind, kind_of_step, answer_of}
use Rattle.trace_report.proofs.ItemValues.{values_of, values-behind, values-by-kinds, kind-of-message, joined}
use Rattle.trace_report.proofs.Steps.{rows_next}

-- Rows that are nothing to items.

abbrev IsQuiet : List RowKind → Type 0
IsQuiet [] = ⊤
IsQuiet (asks bytes ∷ rest) = ⊥
IsQuiet (answers bytes ∷ rest) = ⊥
IsQuiet (strays d bytes ∷ rest) = ⊥
IsQuiet (nothing ∷ rest) = IsQuiet rest

no-answer : (ks : List RowKind) → IsQuiet ks → answer_of ks ≡ None
no-answer [] quiet = refl
no-answer (asks bytes ∷ rest) quiet = absurd quiet
no-answer (answers bytes ∷ rest) quiet = absurd quiet
no-answer (strays d bytes ∷ rest) quiet = absurd quiet
no-answer (nothing ∷ rest) quiet = no-answer rest quiet

no-item : (ks : List RowKind) → IsQuiet ks → values_of ks ≡ []
no-item [] quiet = refl
no-item (asks bytes ∷ rest) quiet = absurd quiet
no-item (answers bytes ∷ rest) quiet = absurd quiet
no-item (strays d bytes ∷ rest) quiet = absurd quiet
no-item (nothing ∷ rest) quiet = no-item rest quiet

no-more : (ks quiet : List RowKind) → IsQuiet quiet → values_of (ks ++ quiet) ≡ values_of ks
no-more ks quiet is = values-behind ks quiet (no-answer quiet is) ∙ ap (λ l. values_of ks ++ l) (no-item quiet is) ∙ append-nil (values_of ks)

ended-quiet : (e : Entry) (ended : Option Ended) → IsQuiet (map kind (ended_rows e ended))
ended-quiet e None = tt
ended-quiet e (Some end) = tt

waiting-quiet : (M : List Message) (to_all : Bool) (waits : Option (List ℕ)) → IsQuiet (map kind (waiting_row M to_all waits))
waiting-quiet M to_all None = tt
waiting-quiet M to_all (Some request) = tt

before-quiet : (M : List Message) (to_all : Bool) (step : Step) → IsQuiet (map kind (closing_before M to_all step))
before-quiet M to_all (becomes.Request service) = waiting-quiet M to_all (open_request M)
before-quiet M to_all becomes.Answer = tt
before-quiet M to_all becomes.Removed = tt
before-quiet M to_all becomes.Hold = tt
before-quiet M to_all becomes.Pass = tt

standing-quiet : (d : Dir) (standing : Option StandingReception) → IsQuiet (map kind (standing_row d standing))
standing-quiet d None = tt
standing-quiet d (Some begun) = tt

-- One more frame.

module _ (rules : List RuleValue) (T : List Entry) (e : Entry) where
  abbrev M : List Message
  M = messages_under rules MESSAGE_LIMIT T

  abbrev to_all : Bool
  to_all = asked_all_in MESSAGE_LIMIT rules T

  -- a message, behind rows that tell what the messages before mean
  with-message : (ks : List RowKind) (bytes : List ℕ) → values_of ks ≡ meaning M
      → values_of (ks ++ kind_of_step (step_after M (dir_of e.channel, bytes)) (dir_of e.channel, bytes) ∷ []) ≡ meaning (M ++ (dir_of e.channel, bytes) ∷ [])
  with-message ks bytes so =
      let x : Message = (dir_of e.channel, bytes) in
      ap (λ step. values_of (ks ++ kind_of_step step x ∷ [])) (sym (step_by_items M x) ∙ ap (λ items. step_of (open_sid_in items) x) (sym so))
      ∙ joined ks x ∙ ap (λ items. items_with items x) so ∙ sym (meaning_goes_on M x)

  with-message-rows : (ks : List RowKind) (bytes : List ℕ) (step : Step) → step ≡ step_after M (dir_of e.channel, bytes) → values_of ks ≡ meaning M
      → values_of (ks ++ map kind (closing_before M to_all step ++ row.message (role_of_step (asked_in MESSAGE_LIMIT rules T) step (dir_of e.channel) bytes) (dir_of e.channel) (message_place MESSAGE_LIMIT rules T e bytes) bytes ∷ []))
      ≡ meaning (M ++ (dir_of e.channel, bytes) ∷ [])
  with-message-rows ks bytes step is so =
      let sent = row.message (role_of_step (asked_in MESSAGE_LIMIT rules T) step (dir_of e.channel) bytes) (dir_of e.channel) (message_place MESSAGE_LIMIT rules T e bytes) bytes in
      let before = map kind (closing_before M to_all step) in
      ap (λ l. values_of (ks ++ l)) (map-append kind (closing_before M to_all step) (sent ∷ []))
      ∙ ap values_of (sym (append_assoc ks before (kind sent ∷ [])))
      ∙ ap (λ k. values_of ((ks ++ before) ++ k ∷ [])) (kind-of-message (asked_in MESSAGE_LIMIT rules T) step (dir_of e.channel) (message_place MESSAGE_LIMIT rules T e bytes) bytes
      ∙ ap (λ s. kind_of_step s (dir_of e.channel, bytes)) is)
      ∙ with-message (ks ++ before) bytes (no-more ks before (before-quiet M to_all step) ∙ so)

  with-left : (ks : List RowKind) (made : Option (List ℕ)) → values_of ks ≡ meaning M
      → values_of (ks ++ map kind (left_rows MESSAGE_LIMIT rules T e made)) ≡ meaning (M ++ (sent_as (dir_of e.channel) made ++ []))
  with-left ks None so = ap values_of (append-nil ks) ∙ so ∙ ap meaning (sym (append-nil M))
  with-left ks (Some bytes) so = with-message-rows ks bytes (step_after M (dir_of e.channel, bytes)) refl so

  with-verdict : (ks : List RowKind) (linked : Bool) (did : VerdictValue) → values_of ks ≡ meaning M
      → values_of (ks ++ map kind (verdict_rows MESSAGE_LIMIT rules T e linked did)) ≡ meaning (M ++ under rules (told_message (dir_of e.channel) did))
  with-verdict ks linked (message bytes) so = with-left ks (made_of rules bytes) so
  with-verdict ks linked began so = ap values_of (append-nil ks) ∙ so ∙ ap meaning (sym (append-nil M))
  with-verdict ks linked stored so = ap values_of (append-nil ks) ∙ so ∙ ap meaning (sym (append-nil M))
  with-verdict ks linked flowed so = ap values_of (append-nil ks) ∙ so ∙ ap meaning (sym (append-nil M))
  with-verdict ks linked (dropped reason) so = no-more ks (nothing ∷ []) tt ∙ so ∙ ap meaning (sym (append-nil M))

  pub one-more-frame : values_of (map kind (rows_of MESSAGE_LIMIT rules T)) ≡ meaning M
      → values_of (map kind (rows_of MESSAGE_LIMIT rules (T ++ e ∷ []))) ≡ meaning (messages_under rules MESSAGE_LIMIT (T ++ e ∷ []))
  one-more-frame so =
      let event = verdict MESSAGE_LIMIT T e in
      let ks = map kind (rows_of MESSAGE_LIMIT rules T) in
      let ended = ended_rows e event.ended in
      let did = verdict_rows MESSAGE_LIMIT rules T e (ends_nothing event.ended) event.verdict in
      ap (λ rows. values_of (map kind rows)) (rows_next MESSAGE_LIMIT rules T e)
      ∙ ap values_of (map-append kind (rows_of MESSAGE_LIMIT rules T) (ended ++ did))
      ∙ ap (λ l. values_of (ks ++ l)) (map-append kind ended did)
      ∙ ap values_of (sym (append_assoc ks (map kind ended) (map kind did)))
      ∙ with-verdict (ks ++ map kind ended) (ends_nothing event.ended) event.verdict (no-more ks (map kind ended) (ended-quiet e event.ended) ∙ so)
      ∙ ap meaning (sym (messages_next rules T e e.channel event refl refl))

-- All frames.

abbrev MeansSo : List RuleValue → List Entry → Type 0
MeansSo rules T = values_of (map kind (rows_of MESSAGE_LIMIT rules T)) ≡ meaning (messages_under rules MESSAGE_LIMIT T)

means-so-behind : (rules : List RuleValue) (past T : List Entry) → MeansSo rules past → MeansSo rules (past ++ T)
means-so-behind rules past [] so = subst (MeansSo rules) (sym (append-nil past)) so
means-so-behind rules past (e ∷ rest) so =
    subst (MeansSo rules) (append_assoc past (e ∷ []) rest)
    (means-so-behind rules (past ++ e ∷ []) rest (one-more-frame rules past e so))

end-quiet : (rules : List RuleValue) (T : List Entry) (ks : List RowKind) → values_of (ks ++ map kind (end_rows MESSAGE_LIMIT rules T)) ≡ values_of ks
end-quiet rules T ks =
    let stand = receptions_after MESSAGE_LIMIT T in
    let one = standing_row dir.Tester stand.tester in
    let other = standing_row dir.Unit stand.unit in
    let to_all = asked_all_in MESSAGE_LIMIT rules T in
    let last = closing_rows (messages_under rules MESSAGE_LIMIT T) to_all in
    ap (λ l. values_of (ks ++ l)) (map-append kind (one ++ other) last ∙ ap (λ l. l ++ map kind last) (map-append kind one other))
    ∙ ap values_of (sym (append_assoc ks (map kind one ++ map kind other) (map kind last)) ∙ ap (λ l. l ++ map kind last) (sym (append_assoc ks (map kind one) (map kind other))))
    ∙ no-more ((ks ++ map kind one) ++ map kind other) (map kind last) (waiting-quiet (messages_under rules MESSAGE_LIMIT T) to_all (open_request (messages_under rules MESSAGE_LIMIT T)))
    ∙ no-more (ks ++ map kind one) (map kind other) (standing-quiet dir.Unit stand.unit)
    ∙ no-more ks (map kind one) (standing-quiet dir.Tester stand.tester)

pub items_are_the_meaning : ItemsAreTheMeaning
items_are_the_meaning rules T =
    values-by-kinds (all_rows MESSAGE_LIMIT rules T)
    ∙ ap values_of (map-append kind (rows_of MESSAGE_LIMIT rules T) (end_rows MESSAGE_LIMIT rules T))
    ∙ end-quiet rules T (map kind (rows_of MESSAGE_LIMIT rules T))
    ∙ means-so-behind rules [] T refl
