-- What holds of what is kept of a request, whatever messages and rules there are.
use Rattle.std.specs.Prelude.{◌≡◌, true, false, List, ℕ}
use Rattle.uds_rules.specs.Rule.{RuleValue}
use Rattle.uds_rules.specs.Legal.{AreRules}
use Rattle.uds_echo.specs.Echo.{answers_other}
use Rattle.asked_request.specs.Asked.{asked_of, asks_for_more}

-- What is kept of a request tells whether an answer is other than was asked, as the whole request does, under the rules of a
-- profile.
abbrev pub KeptIsEnough : Type 0
KeptIsEnough = (rules : List RuleValue) → AreRules rules → (request answer : List ℕ) → asks_for_more request ≡ false
    → answers_other rules (asked_of request) answer ≡ answers_other rules request answer

-- of a request that asks for more than is kept no answer is other than was asked
abbrev pub NothingIsToldOfMore : Type 0
NothingIsToldOfMore = (rules : List RuleValue) (request answer : List ℕ) → asks_for_more request ≡ true
    → answers_other rules (asked_of request) answer ≡ false
