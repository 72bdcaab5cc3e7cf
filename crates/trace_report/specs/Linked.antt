-- Where the links of a page of one log lead: which of its rows have an identifier, and which identifiers stand on it
-- besides.
use Rattle.std.specs.Prelude.{◌≡◌, ℕ, List, ◌∷◌, [], ◌++◌, codes, map, slice_get, Option, Some, None, if◌then◌else◌}
use Rattle.std.specs.List.{AllByRecursion, filter_map}
use Rattle.arrayvec.specs.ArrayVec.{ArrayVec}
use Rattle.uds_rules.specs.Rule.{RuleValue}
use Rattle.slow_answers.specs.declared.answer.SlowAnswer.{SlowAnswer}
use Rattle.trace_report.specs.AnswerTimes.{slowest_in}
use Rattle.trace_report.specs.Rows.{RowValue, message, no_answer, dropped, ended, unfinished}
use Rattle.trace_report.specs.Roles.{begins_item}
use Rattle.trace_report.specs.OtherAnswers.{others_of}
use Rattle.trace_report.specs.Sorts.{first_targets}
use Rattle.trace_report.specs.Targets.{identifier}
use Rattle.trace_report.specs.declared.targets.LinkTarget.{LinkTarget}
use Rattle.trace_report.specs.declared.targets.LinkTarget.TheVariants as target

-- the place that a row is, if links lead to it
abbrev pub target_at : RowValue → Option LinkTarget
target_at (message is d place bytes) = if begins_item is then Some (target.Item place.item) else None
target_at (no_answer number silence) = None
target_at (dropped place d linked why) = if linked then Some (target.Line place.line) else None
target_at (ended place end) = Some (target.Line place.line)
target_at (unfinished d begun len) = Some (target.Side d)

-- the places that these rows are, in order
abbrev pub targets_in : List RowValue → List LinkTarget
targets_in rows = filter_map target_at rows

-- the identifiers of all pages of one log; `rules` stands on those that are under rules
abbrev pub fixed_identifiers : List (List ℕ)
fixed_identifiers =
    codes "t" ∷ codes "u" ∷ codes "tx" ∷ codes "ux" ∷ codes "te" ∷ codes "ue" ∷ codes "cut" ∷ codes "session" ∷ codes "only"
    ∷ codes "verdict" ∷ codes "help" ∷ codes "end" ∷ codes "rules" ∷ []

-- all identifiers of a page with these rows
abbrev pub identifiers_in : List RowValue → List (List ℕ)
identifiers_in rows = fixed_identifiers ++ map identifier (targets_in rows)

-- x is an element of this list
abbrev pub IsAmong : {X : Type 0} → X → List X → Type 0
IsAmong x xs = (place : ℕ) × (slice_get xs place ≡ Some x)

-- links to these places lead to rows among these
abbrev pub LeadTo : List RowValue → ArrayVec LinkTarget → Type 0
LeadTo rows targets = AllByRecursion (λ (place : LinkTarget). IsAmong place (targets_in rows)) targets.items

-- links to the items of these answers lead to rows among these
abbrev pub LeadToItems : List RowValue → List SlowAnswer → Type 0
LeadToItems rows answers = AllByRecursion (λ (answer : SlowAnswer). IsAmong (target.Item answer.item) (targets_in rows)) answers

-- each link of a verdict on these rows, which are under rules, leads to one of them
pub record HasEachTarget (rules : List RuleValue) (rows : List RowValue) : Type 0 where
  pub dropped : LeadTo rows (first_targets rows).dropped
  pub ended : LeadTo rows (first_targets rows).ended
  pub unfinished : LeadTo rows (first_targets rows).unfinished
  pub negatives : LeadTo rows (first_targets rows).negatives
  pub unanswered : LeadTo rows (first_targets rows).unanswered
  pub strays : LeadTo rows (first_targets rows).strays
  pub slowest : LeadToItems rows (slowest_in rows)
  pub others : LeadTo rows (others_of rules rows).first
