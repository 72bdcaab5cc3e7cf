-- What is told of a request without an answer.
use Rattle.std.proofs.Common.{◌≡◌, ℕ, Bool, true, false, List, length, codes, refl, ap}
use Rattle.std.specs.Prelude.{◌↔◌, if◌then◌else◌}
use Rattle.uds_message.specs.Message.{is_suppressing}
use Rattle.trace_text.specs.Json.{string, Members, nothing, member}
use Rattle.trace_text.specs.Json as json
use Rattle.trace_text.specs.Laws.{SilenceWasAskedFor, SilenceWasAskedForInJson}

-- the word for a request without an answer, which asked for none or not
abbrev told : Bool → List ℕ
told asked = if asked then codes "silent" else codes "unanswered"

-- it is *silent* exactly where the request asked for none
told_by : (asked : Bool) → (told asked ≡ codes "silent") ↔ (asked ≡ true)
told_by true = (λ same. refl, λ is. refl)
told_by false = (λ same. absurd (cc (ap length same)), λ is. absurd (cc))

-- the member that tells a word
abbrev members : List ℕ → Members
members word = member (codes "outcome") (json.string word) nothing

-- the word of the first member
abbrev word : Members → List ℕ
word nothing = codes ""
word (member key (string text) later) = text
word (member key json.null later) = codes ""
word (member key (json.truth b) later) = codes ""
word (member key (json.number n) later) = codes ""
word (member key (json.below_zero n) later) = codes ""
word (member key (json.pair one other) later) = codes ""
word (member key (json.object inner) later) = codes ""

-- in words
pub silence_was_asked_for : SilenceWasAskedFor
silence_was_asked_for rules request = told_by (is_suppressing request)

-- and as JSON
pub silence_was_asked_for_in_json : SilenceWasAskedForInJson
silence_was_asked_for_in_json rules request = (
  λ same. (told_by (is_suppressing request)).0 (ap word same),
  λ is. ap members ((told_by (is_suppressing request)).1 is),
)
