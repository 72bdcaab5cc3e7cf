-- The answers that rows tell: with one more row, and that links lead to their items.
use Prim.Native.Nat.{zero, suc}
use Rattle.std.proofs.Common.{◌≡◌, ℕ, List, [], ◌∷◌, ◌++◌, Option, Some, None, IfSome, refl, ap, sym, ◌∙◌}
use Rattle.std.specs.Prelude.{insert}
use Rattle.std.specs.List.{AllByRecursion, cons_option}
use Rattle.slow_answers.specs.Slowest.{most_kept, place_for, slowest, with_answer, with_answers}
use Rattle.slow_answers.specs.Waited.{waited}
use Rattle.slow_answers.specs.declared.answer.SlowAnswer.{SlowAnswer}
use Rattle.trace_report.specs.AnswerTimes.{answer_after, answer_told, answers_behind, answers_in, no_request, request_behind, request_with, slowest_in}
use Rattle.trace_report.specs.Linked.{IsAmong}
use Rattle.trace_report.specs.Rows.{RowValue}
use Rattle.trace_report.specs.Rows as row
use Rattle.trace_report.specs.declared.answer_times.LastRequest.{LastRequest}
use Rattle.trace_report.specs.declared.row.MessagePlace.{MessagePlace}
use Rattle.trace_report.specs.declared.roles.MessageRole.TheVariants as role
use Rattle.trace_report.specs.declared.targets.LinkTarget.{LinkTarget}
use Rattle.trace_report.specs.declared.targets.LinkTarget.TheVariants.{Item as of_item}
use Rattle.trace_report.proofs.Distinct.{each-of-first}
use Rattle.trace_report.proofs.RowPlaces.{Leads}

-- One more row.

request_more : (last : LastRequest) (rows : List RowValue) (one : RowValue) → request_behind last (rows ++ one ∷ []) ≡ request_with (request_behind last rows) one
request_more last [] one = refl
request_more last (first ∷ rows) one = request_more (request_with last first) rows one

-- what is known of the last request
pub request_next : (rows : List RowValue) (one : RowValue) → request_behind no_request (rows ++ one ∷ []) ≡ request_with (request_behind no_request rows) one
request_next rows one = request_more no_request rows one

cons-append : (o : Option SlowAnswer) (xs ys : List SlowAnswer) → cons_option o (xs ++ ys) ≡ cons_option o xs ++ ys
cons-append None xs ys = refl
cons-append (Some x) xs ys = refl

answers_more : (last : LastRequest) (rows : List RowValue) (one : RowValue)
    → answers_behind last (rows ++ one ∷ []) ≡ answers_behind last rows ++ cons_option (answer_told (request_behind last rows) one) []
answers_more last [] one = refl
answers_more last (first ∷ rows) one =
    ap (cons_option (answer_told last first)) (answers_more (request_with last first) rows one)
    ∙ cons-append (answer_told last first) (answers_behind (request_with last first) rows)
    (cons_option (answer_told (request_behind (request_with last first) rows) one) [])

-- the slowest answers, where the row tells this one, or none
pub slowest_next : (rows : List RowValue) (one : RowValue) (told : Option SlowAnswer) → told ≡ answer_told (request_behind no_request rows) one
    → slowest (answers_in rows ++ cons_option told []) ≡ slowest_in (rows ++ one ∷ [])
slowest_next rows one told is =
    ap (λ o. slowest (answers_in rows ++ cons_option o [])) is ∙ sym (ap slowest (answers_more no_request rows one))

-- Links to items.

module _ (places : List LinkTarget) where
  -- a link to the item of an answer leads to one of these places
  abbrev ToItem : SlowAnswer → Type 0
  ToItem answer = IsAmong (of_item answer.item) places

  after-leads : (last : LastRequest) (place : MessagePlace) (micros : Option ℕ) → IsAmong (of_item place.item) places → IfSome (answer_after last place micros) ToItem
  after-leads last place None leads = tt
  after-leads last place (Some micros) leads = leads

  told-leads : (last : LastRequest) (one : RowValue) → Leads places one → IfSome (answer_told last one) ToItem
  told-leads last (row.message role.Request d place bytes) leads = tt
  told-leads last (row.message (role.Positive asked) d place bytes) leads = after-leads last place (waited asked place.first.micros) leads
  told-leads last (row.message (role.Negative asked) d place bytes) leads = after-leads last place (waited asked place.first.micros) leads
  told-leads last (row.message (role.Pending asked) d place bytes) leads = tt
  told-leads last (row.message role.KeepAlive d place bytes) leads = tt
  told-leads last (row.message role.Stray d place bytes) leads = tt
  told-leads last (row.no_answer number silence) leads = tt
  told-leads last (row.dropped place d linked why) leads = tt
  told-leads last (row.ended place end) leads = tt
  told-leads last (row.unfinished d line len) leads = tt

  cons-leads : (o : Option SlowAnswer) (answers : List SlowAnswer) → IfSome o ToItem → AllByRecursion ToItem answers → AllByRecursion ToItem (cons_option o answers)
  cons-leads None answers one each = each
  cons-leads (Some answer) answers one each = (one, each)

  answers-lead : (last : LastRequest) (rows : List RowValue) → AllByRecursion (Leads places) rows → AllByRecursion ToItem (answers_behind last rows)
  answers-lead last [] lead = tt
  answers-lead last (one ∷ rows) lead =
      cons-leads (answer_told last one) (answers_behind (request_with last one) rows) (told-leads last one lead.0)
      (answers-lead (request_with last one) rows lead.1)

  insert-leads : (answers : List SlowAnswer) (at : ℕ) (answer : SlowAnswer) → AllByRecursion ToItem answers → ToItem answer → AllByRecursion ToItem (insert answers at answer)
  insert-leads answers zero answer each one = (one, each)
  insert-leads [] (suc at) answer each one = (one, tt)
  insert-leads (first ∷ rest) (suc at) answer each one = (each.0, insert-leads rest at answer each.1 one)

  placed-lead : (placed answers : List SlowAnswer) → AllByRecursion ToItem placed → AllByRecursion ToItem answers → AllByRecursion ToItem (with_answers placed answers)
  placed-lead placed [] before each = before
  placed-lead placed (answer ∷ rest) before each =
      placed-lead (with_answer placed answer) rest (insert-leads placed (place_for answer.micros placed) answer before each.0) each.1

  -- links to the items of the slowest answers lead there
  pub slowest-lead : (rows : List RowValue) → AllByRecursion (Leads places) rows → AllByRecursion ToItem (slowest_in rows)
  slowest-lead rows lead = each-of-first ToItem most_kept (with_answers [] (answers_in rows)) (placed-lead [] (answers_in rows) tt (answers-lead no_request rows lead))
