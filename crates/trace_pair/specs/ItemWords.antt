-- Items in the words of a technician: what was asked, and what came of it; and how two items differ.
use Rattle.std.specs.Prelude.{ℕ, ◌-◌, ◌==◌, Bool, true, false, List, [], ◌++◌, codes, length, nat_le, Option, Some, None, if◌then◌else◌}
use Rattle.std.specs.Fmt.{decimal}
use Rattle.direction.specs.declared.Dir.{Dir}
use Rattle.direction.specs.declared.Dir.TheVariants as dir
use Rattle.uds_message.specs.Message.{is_keep_alive, is_negative_response, is_suppressing, response_code, sid}
use Rattle.uds_exchange.specs.Meaning.{ItemValue, exchange, stray}
use Rattle.uds_difference.specs.Likeness.{same_bytes}
use Rattle.trace_text.specs.Words.{direction_text}
use Rattle.shown_bytes.specs.Data.{known_length, more_words, piece_text}
use Rattle.uds_rules.specs.Rule.{RuleValue}
use Rattle.trace_pair.specs.declared.outcome.Outcome.{Outcome}
use Rattle.trace_pair.specs.declared.outcome.Outcome.TheVariants.{Positive, Refused, Silent, Unanswered}
use Rattle.pair_words.specs.declared.log.PairLog.{PairLog}
use Rattle.pair_words.specs.declared.log.PairLog.TheVariants.{A, B}
use Rattle.pair_words.specs.ByteWords.{byte_words}
use Rattle.pair_words.specs.Logs.{letter}
use Rattle.pair_words.specs.LongNames.{parted_code, parted_service}

-- what came of a request: its answer, or why there is none
abbrev pub came_of : List ℕ → Option (List ℕ) → Outcome
came_of request (Some reply) = if is_negative_response reply then Refused (response_code reply) else Positive
came_of request None = if is_suppressing request then Silent else Unanswered

-- what came of a request, in words
abbrev pub outcome_words : Outcome → List ℕ
outcome_words Positive = codes "positive"
outcome_words (Refused code) = codes "refused with <b>" ++ parted_code code ++ codes "</b>"
outcome_words Silent = codes "silent, as the request asks"
outcome_words Unanswered = codes "without an answer"

-- what came of a request, as the mark of its line says it
abbrev pub outcome_mark : Outcome → List ℕ
outcome_mark Positive = codes "positive"
outcome_mark (Refused code) = codes "negative " ++ parted_code code
outcome_mark Silent = codes "silent"
outcome_mark Unanswered = codes "no answer"

-- a request was refused
abbrev pub is_refusal : Outcome → Bool
is_refusal Positive = false
is_refusal (Refused code) = true
is_refusal Silent = false
is_refusal Unanswered = false

-- what came of a request in a log; that it was refused may have been said before
abbrev pub outcome_in : PairLog → Bool → Outcome → List ℕ
outcome_in log said Positive = codes "positive in " ++ letter log
outcome_in log said (Refused code) = (if said then codes "with <b>" else codes "refused with <b>") ++ parted_code code ++ codes "</b> in " ++ letter log
outcome_in log said Silent = codes "silent in " ++ letter log ++ codes ", as the request asks"
outcome_in log said Unanswered = codes "without an answer in " ++ letter log

-- what stands between an outcome and another one
abbrev pub between : Outcome → List ℕ
between Positive = codes ", "
between (Refused code) = codes ", "
between Silent = codes "; "
between Unanswered = codes ", "

-- two outcomes that are not the same; of two refusals it is said once that they are
abbrev pub outcomes_differ : Outcome → Outcome → List ℕ
outcomes_differ one other = outcome_in A false one ++ between one ++ outcome_in B (is_refusal one) other

-- two outcomes are the same: of one kind, and refusals with one code
abbrev pub same_outcome : Outcome → Outcome → Bool
same_outcome Positive Positive = true
same_outcome (Refused code) (Refused other) = code == other
same_outcome Silent Silent = true
same_outcome Unanswered Unanswered = true
same_outcome _ _ = false

-- so many bytes of a message are told in a sentence
abbrev pub told_bytes : ℕ
told_bytes = 8

-- what stands before how many more bytes a message has: at least so many, where it is not known how many it has
abbrev pub more_front : Option ℕ → List ℕ
more_front None = codes " <i>and at least "
more_front (Some known) = codes " <i>and "

-- the first bytes of a message, and how many more it has
abbrev pub first_bytes : List RuleValue → List ℕ → List ℕ
first_bytes rules bytes =
    codes "<code>" ++ piece_text rules bytes 0 told_bytes ++ codes "</code>"
    ++ (if nat_le (length bytes) told_bytes then []
    else more_front (known_length rules bytes) ++ decimal (length bytes - told_bytes) ++ more_words (length bytes - told_bytes) ++ codes "</i>")

-- a stray is a keep-alive, where the tester sent it and it is one
abbrev pub keeps_alive : Dir → List ℕ → Bool
keeps_alive dir.Tester bytes = is_keep_alive bytes
keeps_alive dir.Unit bytes = false

-- what an item is, and how it begins
abbrev pub item_title : List RuleValue → ItemValue → List ℕ
item_title rules (exchange request answer) = codes "<b>" ++ parted_service (sid request) ++ codes "</b> " ++ first_bytes rules request
item_title rules (stray side bytes) =
    (if keeps_alive side bytes then codes "<b>keep-alive</b> " else codes "<b>stray</b> <i>from the " ++ direction_text side ++ codes "</i> ")
    ++ first_bytes rules bytes

-- what came of an item, behind its title, where it is an exchange
abbrev pub outcome_note : ItemValue → List ℕ
outcome_note (exchange request answer) = codes ": " ++ outcome_words (came_of request answer)
outcome_note (stray side bytes) = []

-- at which bytes two answers differ, behind what stands before
abbrev pub answer_bytes : List RuleValue → List ℕ → Option (List ℕ) → Option (List ℕ) → List ℕ
answer_bytes rules before (Some xs) (Some ys) = if same_bytes xs ys then [] else before ++ codes "answer" ++ byte_words rules xs ys
answer_bytes rules before _ _ = []

-- how the answers of two exchanges differ: in what came of the request, or else in bytes
abbrev pub answers_differ : List RuleValue → List ℕ → Outcome → Outcome → Option (List ℕ) → Option (List ℕ) → List ℕ
answers_differ rules before one other answer reply =
    if same_outcome one other then answer_bytes rules before answer reply
    else before ++ outcomes_differ one other

-- how two items of one service differ: in the request, in the answer, or in both
abbrev pub differ : List RuleValue → ItemValue → ItemValue → List ℕ
differ rules (exchange request answer) (exchange other reply) =
    if same_bytes request other
    then answers_differ rules [] (came_of request answer) (came_of other reply) answer reply
    else codes "request" ++ byte_words rules request other
    ++ answers_differ rules (codes "; ") (came_of request answer) (came_of other reply) answer reply
differ rules (stray side bytes) (stray other others) = codes "message" ++ byte_words rules bytes others
differ rules _ _ = []
