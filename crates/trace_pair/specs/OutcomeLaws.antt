-- What is told of an exchange without an answer.
use Rattle.std.specs.Prelude.{◌≡◌, ◌≢◌, ℕ, Bool, true, false, List, [], ◌++◌, codes, Option, Some, None, if◌then◌else◌}
use Rattle.uds_exchange.specs.Meaning.{ItemValue, exchange, stray}
use Rattle.uds_message.specs.Message.{is_suppressing}
use Rattle.uds_difference.specs.Likeness.{same_bytes}
use Rattle.uds_rules.specs.Rule.{RuleValue}
use Rattle.uds_difference.specs.declared.row.Row.{Row}
use Rattle.uds_difference.specs.declared.row.Row.TheVariants.{Same, Changed, OnlyLeft, OnlyRight}
use Rattle.trace_report.specs.Items.{PlacedItemValue, RowMessageValue, item_value}
use Rattle.trace_report.specs.Roles.{is_request_role}
use Rattle.pair_words.specs.declared.log.PairLog.{PairLog}
use Rattle.pair_words.specs.declared.log.PairLog.TheVariants.{A, B}
use Rattle.pair_words.specs.ByteWords.{byte_words}
use Rattle.trace_pair.specs.ItemRows.{message_of_both, outcome_line, told}
use Rattle.trace_pair.specs.ItemWords.{between, came_of, differ, outcome_in, outcome_mark, outcome_note, outcome_words}
use Rattle.pair_words.specs.Logs.{letter, letter_mark}
use Rattle.trace_pair.specs.ToldItems.{no_answer_text, told_message}
use Rattle.trace_pair.specs.declared.outcome.Outcome.{Outcome}
use Rattle.trace_pair.specs.declared.outcome.Outcome.TheVariants.{Silent, Unanswered}

-- the item is an exchange without an answer, and its request asks for none, or asks for one
abbrev pub HasNone : Bool → ItemValue → Type 0
HasNone silent (exchange request answer) = (answer ≡ None) × (is_suppressing request ≡ silent)
HasNone silent (stray side bytes) = ⊥

-- that there is none: its outcome, where the request asks for none, and where it asks for one
abbrev pub none_outcome : Bool → Outcome
none_outcome silent = if silent then Silent else Unanswered

-- the same of a log, in words
abbrev pub none_words : PairLog → Bool → List ℕ
none_words log silent = if silent then codes "silent in " ++ letter log ++ codes ", as the request asks" else codes "without an answer in " ++ letter log

-- the same behind a request, as a row has it
abbrev pub none_told : Bool → List ℕ
none_told silent = codes " &#8594; " ++ no_answer_text silent

-- how the requests of two exchanges differ, where they do, before what came of them
abbrev pub asked_words : List RuleValue → List ℕ → List ℕ → List ℕ
asked_words rules request other = if same_bytes request other then [] else codes "request" ++ byte_words rules request other ++ codes "; "

-- the item that a row of this kind tells by itself: one that one log has alone, or that is the same in both
abbrev pub told_whole : Row → Option PlacedItemValue → Option PlacedItemValue → Option PlacedItemValue
told_whole Same one other = other
told_whole Changed one other = None
told_whole OnlyLeft one other = one
told_whole OnlyRight one other = other

-- Wherever the page tells that an item has no answer, or is silent, it has none, and its request asks for one, or for
-- none.
pub record UnansweredHasNone : Type 0 where
  -- what came of a request
  pub came : (request : List ℕ) (answer : Option (List ℕ)) (silent : Bool) → came_of request answer ≡ none_outcome silent → HasNone silent (exchange request answer)
  -- in a line of the list, of an item that one log has alone
  pub in_line : (item : ItemValue) (silent : Bool) → outcome_note item ≡ codes ": " ++ outcome_words (none_outcome silent) → HasNone silent item
  -- in a row of such an item, or of one that is the same in both, seen or folded
  pub in_row : (rules : List RuleValue) (kind : Row) (one other : Option PlacedItemValue) (item : PlacedItemValue) (silent : Bool)
      → told_whole kind one other ≡ Some item
      → told rules kind one other ≡ told_message rules item.begin ++ none_told silent → HasNone silent (item_value item)
  -- which then holds of both logs
  pub where_same : (rules : List RuleValue) (one other : PlacedItemValue) (silent : Bool) → item_value one ≡ item_value other
      → told rules Same (Some one) (Some other) ≡ told_message rules other.begin ++ none_told silent → HasNone silent (item_value one) × HasNone silent (item_value other)
  -- in a row of two exchanges that changed, once for both logs
  pub where_changed : (rules : List RuleValue) (one other : PlacedItemValue) (silent : Bool) → is_request_role other.begin.role ≡ true
      → told rules Changed (Some one) (Some other) ≡ message_of_both rules one.begin other.begin ++ none_told silent → HasNone silent (item_value one) × HasNone silent (item_value other)
  -- or in the line of each log, with a mark
  pub in_mark : (rules : List RuleValue) (log : PairLog) (request : List ℕ) (answer : Option RowMessageValue) (silent : Bool)
      → outcome_line rules log request answer ≡ codes "<div>" ++ letter_mark log ++ codes "&#8594; <mark>" ++ outcome_mark (none_outcome silent) ++ codes "</mark></div>"
      → (answer ≡ None) × (is_suppressing request ≡ silent)
  -- and in what differs of two exchanges, in the list and above their row, it is told of the log that has none: of the
  -- first
  pub of_left : (rules : List RuleValue) (request other reply : List ℕ)
      → differ rules (exchange request None) (exchange other (Some reply))
      ≡ asked_words rules request other ++ (none_words A (is_suppressing request) ++ between (none_outcome (is_suppressing request)) ++ outcome_in B false (came_of other (Some reply)))
  -- of the second
  pub of_right : (rules : List RuleValue) (request other reply : List ℕ)
      → differ rules (exchange request (Some reply)) (exchange other None)
      ≡ asked_words rules request other ++ (outcome_in A false (came_of request (Some reply)) ++ codes ", " ++ none_words B (is_suppressing other))
  -- or of both, of which one asks for an answer
  pub of_both : (rules : List RuleValue) (request other : List ℕ) → is_suppressing request ≢ is_suppressing other
      → differ rules (exchange request None) (exchange other None)
      ≡ asked_words rules request other ++ (none_words A (is_suppressing request) ++ between (none_outcome (is_suppressing request)) ++ none_words B (is_suppressing other))
