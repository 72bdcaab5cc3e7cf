-- What holds of the echo, whatever messages and rules there are.
use Rattle.std.specs.Prelude.{◌≡◌, ℕ, ◌+◌, ◌*◌, ◌==◌, ◌<◌, ◌≤◌, true, false, List, [], ◌∷◌, None, slice_get}
use Rattle.std.specs.List.{list_any}
use Rattle.uds_message.specs.Message.{is_negative_response, sid}
use Rattle.uds_message.specs.Tables.{has_sub_function}
use Rattle.uds_rules.specs.Rule.{RuleValue, mask_of}
use Rattle.uds_echo.specs.Left.{compared_at, is_masked_at}
use Rattle.uds_echo.specs.Repeated.{repeated_count}
use Rattle.uds_echo.specs.Echo.{answers_other, asked_count}

-- An answer that repeats what was asked is never told, whatever rules mask: at each place that a response to the service
-- repeats both have the same byte, or the same number of the sub-function.
abbrev pub RepeatedIsNotTold : Type 0
RepeatedIsNotTold = (rules : List RuleValue) (request answer : List ℕ)
    → ((place : ℕ) → 1 ≤ place → place ≤ repeated_count request answer
    → compared_at (has_sub_function (sid request)) request None place ≡ compared_at (has_sub_function (sid request)) answer None place)
    → answers_other rules request answer ≡ false

-- an answer of ReadDataByIdentifier with any of the data identifiers that were asked for is never told
abbrev pub AskedIsNotTold : Type 0
AskedIsNotTold = (rules : List RuleValue) (request answer : List ℕ) (before : ℕ)
    → sid request ≡ 0x22 → before < asked_count request
    → slice_get request (2 * before + 1) ≡ slice_get answer 1 → slice_get request (2 * before + 2) ≡ slice_get answer 2
    → answers_other rules request answer ≡ false

-- an answer of which rules mask each place that is repeated is never told
abbrev pub MaskedIsNotTold : Type 0
MaskedIsNotTold = (rules : List RuleValue) (request answer : List ℕ)
    → ((place : ℕ) → 1 ≤ place → place ≤ repeated_count request answer → is_masked_at (mask_of rules answer) place ≡ true)
    → answers_other rules request answer ≡ false

-- a negative response is never told
abbrev pub NegativeIsNotTold : Type 0
NegativeIsNotTold = (rules : List RuleValue) (request answer : List ℕ) → is_negative_response answer ≡ true
    → answers_other rules request answer ≡ false

-- the services whose positive response repeats bytes of the request
abbrev pub echo_services : List ℕ
echo_services =
    0x10 ∷ 0x11 ∷ 0x19 ∷ 0x22 ∷ 0x24 ∷ 0x27 ∷ 0x28 ∷ 0x29 ∷ 0x2C ∷ 0x2E ∷ 0x2F ∷ 0x31 ∷ 0x36 ∷ 0x38 ∷ 0x3E ∷ 0x83 ∷ 0x85
    ∷ 0x86 ∷ 0x87 ∷ []

-- of other services no answer is ever told
abbrev pub NoOtherServiceIsTold : Type 0
NoOtherServiceIsTold = (rules : List RuleValue) (request answer : List ℕ)
    → list_any (λ service. sid request == service) echo_services ≡ false
    → answers_other rules request answer ≡ false
