-- What rules keep of a message, to the byte.
use Rattle.std.specs.Prelude.{◌≡◌, ℕ, ◌==◌, true, false, List, Some, slice_get}
use Rattle.uds_message.specs.Message.{sid, is_negative_response}
use Rattle.uds_message.specs.Tables.{has_sub_function}
use Rattle.uds_rules.specs.Rule.{RuleValue, is_spoken_of, made_of}
use Rattle.uds_rules.specs.Legal.{AreRules, tester_present}

-- a message that no rule speaks of stays as it is
abbrev pub UnspokenStays : Type 0
UnspokenStays = (rules : List RuleValue) (message : List ℕ) → is_spoken_of rules message ≡ false → made_of rules message ≡ Some message

-- The sub-function of a message, the byte behind its service identifier where the service has one (ISO 14229-1,
-- sub-function parameter), is that of the message as it was sent; where no byte stood there, none does.
abbrev pub SubFunctionStays : Type 0
SubFunctionStays = (rules : List RuleValue) → AreRules rules → (message shown : List ℕ) → made_of rules message ≡ Some shown
    → has_sub_function (sid message) ≡ true → slice_get shown 1 ≡ slice_get message 1

-- a negative response that is not left out stays as it is
abbrev pub NegativeResponseStays : Type 0
NegativeResponseStays = (rules : List RuleValue) → AreRules rules → (message shown : List ℕ) → made_of rules message ≡ Some shown
    → is_negative_response message ≡ true → shown ≡ message

-- and so does a TesterPresent
abbrev pub TesterPresentStays : Type 0
TesterPresentStays = (rules : List RuleValue) → AreRules rules → (message shown : List ℕ) → made_of rules message ≡ Some shown
    → (sid message == tester_present) ≡ true → shown ≡ message
