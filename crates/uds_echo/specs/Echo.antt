-- The echo of a request in its positive response: bytes that the response repeats, and so tells what it answers.
use Prim.Native.Nat.{zero, suc}
use Rattle.std.specs.Prelude.{ℕ, ◌+◌, ◌-◌, ◌*◌, ◌/◌, ◌==◌, ◌&&◌, ◌||◌, Bool, true, false, List, Option, length, if◌then◌else◌}
use Rattle.uds_message.specs.Message.{service_answered, sid}
use Rattle.uds_message.specs.Tables.{has_sub_function}
use Rattle.uds_rules.specs.Mask.{MaskValue}
use Rattle.uds_rules.specs.Rule.{RuleValue, mask_of}
use Rattle.uds_echo.specs.Left.{compared_at, differ, seen_at}
use Rattle.uds_echo.specs.Repeated.{is_longer, repeated_count}

-- the bytes of the request and the answer differ at a place, where the service has a sub-function or has none
abbrev pub differ_at : Bool → List ℕ → Option (MaskValue × ℕ) → List ℕ → Option (MaskValue × ℕ) → ℕ → Bool
differ_at has_sub request asked answer told place = differ (compared_at has_sub request asked place) (compared_at has_sub answer told place)

-- they differ at one of the first so many places behind the service identifier
unfoldable pub differ_within : Bool → List ℕ → Option (MaskValue × ℕ) → List ℕ → Option (MaskValue × ℕ) → ℕ → Bool
differ_within has_sub request asked answer told zero = false
differ_within has_sub request asked answer told (suc count) =
    differ_within has_sub request asked answer told count || differ_at has_sub request asked answer told (count + 1)

-- of how many data identifiers a request asks for the data: each has two bytes, the first one behind the service identifier
abbrev pub asked_count : List ℕ → ℕ
asked_count request = (length request - 1) / 2

-- the data identifier that is answered is another than the one behind so many others of the request
abbrev pub is_other_than : List ℕ → Option (MaskValue × ℕ) → List ℕ → Option (MaskValue × ℕ) → ℕ → Bool
is_other_than request asked answer told before =
    differ (seen_at request asked (2 * before + 1)) (seen_at answer told 1)
    || differ (seen_at request asked (2 * before + 2)) (seen_at answer told 2)

-- it is none of the first so many
unfoldable pub is_none_of : List ℕ → Option (MaskValue × ℕ) → List ℕ → Option (MaskValue × ℕ) → ℕ → Bool
is_none_of request asked answer told zero = true
is_none_of request asked answer told (suc count) =
    is_none_of request asked answer told count && is_other_than request asked answer told count

-- the answer repeats other bytes than the request has, where these messages have these masks: ReadDataByIdentifier answers with
-- none of the data identifiers that were asked for, or another service with other bytes at the places that it repeats
abbrev pub repeats_others : List ℕ → Option (MaskValue × ℕ) → List ℕ → Option (MaskValue × ℕ) → Bool
repeats_others request asked answer told =
    if sid request == 0x22 then is_none_of request asked answer told (asked_count request)
    else differ_within (has_sub_function (sid request)) request asked answer told (repeated_count request answer)

-- Whether a positive answer is other than was asked: both messages have all the bytes which a response to the service
-- repeats, and these differ. A byte that a rule masks differs from none.
unfoldable pub answers_other : List RuleValue → List ℕ → List ℕ → Bool
answers_other rules request answer =
    service_answered (sid answer) == sid request
    && ((is_longer (repeated_count request answer) request && is_longer (repeated_count request answer) answer)
    && repeats_others request (mask_of rules request) answer (mask_of rules answer))
