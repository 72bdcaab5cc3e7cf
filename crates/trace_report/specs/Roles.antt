-- What a message is to its item, by what becomes of it; and what is asked of that: whether the message is a request, an
-- answer, or begins an item, and what it replies to.
use Rattle.std.specs.Prelude.{ℕ, Bool, true, false, List, Option, Some, None, if◌then◌else◌}
use Rattle.direction.specs.declared.Dir.{Dir}
use Rattle.trace_report.specs.declared.roles.MessageRole.{MessageRole}
use Rattle.uds_exchange.specs.declared.step.Step.{Step}
use Rattle.uds_message.specs.Message.{is_keep_alive, is_negative_response}
use Rattle.direction.specs.declared.Dir.TheVariants as dir
use Rattle.trace_report.specs.declared.roles.MessageRole.TheVariants as role
use Rattle.uds_exchange.specs.declared.step.Step.TheVariants as becomes

-- what an answer is to its item, by its first byte
abbrev pub answer_role : ℕ → List ℕ → MessageRole
answer_role asked bytes = if is_negative_response bytes then role.Negative asked else role.Positive asked

-- what a message of the tester is that belongs to no exchange: the keep-alive, or a stray
abbrev pub other_tester_role : List ℕ → MessageRole
other_tester_role bytes = if is_keep_alive bytes then role.KeepAlive else role.Stray

-- what a message of either side is that belongs to no exchange
abbrev pub other_role : Dir → List ℕ → MessageRole
other_role dir.Tester bytes = other_tester_role bytes
other_role dir.Unit bytes = role.Stray

-- what a message is, by what becomes of it, where the last request was complete at the time `asked`
abbrev pub role_of_step : ℕ → Step → Dir → List ℕ → MessageRole
role_of_step asked (becomes.Request service) d bytes = role.Request
role_of_step asked becomes.Answer d bytes = answer_role asked bytes
role_of_step asked becomes.Removed d bytes = role.Pending asked
role_of_step asked becomes.Hold d bytes = other_role d bytes
role_of_step asked becomes.Pass d bytes = other_role d bytes

-- the message is a request: an exchange begins with it
abbrev pub is_request_role : MessageRole → Bool
is_request_role role.Request = true
is_request_role (role.Positive asked) = false
is_request_role (role.Negative asked) = false
is_request_role (role.Pending asked) = false
is_request_role role.KeepAlive = false
is_request_role role.Stray = false

-- the message answers a request
abbrev pub is_answer_role : MessageRole → Bool
is_answer_role role.Request = false
is_answer_role (role.Positive asked) = true
is_answer_role (role.Negative asked) = true
is_answer_role (role.Pending asked) = false
is_answer_role role.KeepAlive = false
is_answer_role role.Stray = false

-- the message begins an item, and is no reply in one
abbrev pub begins_item : MessageRole → Bool
begins_item role.Request = true
begins_item (role.Positive asked) = false
begins_item (role.Negative asked) = false
begins_item (role.Pending asked) = false
begins_item role.KeepAlive = true
begins_item role.Stray = true

-- when the last frame of the request came to which a message replies, if it replies to one
abbrev pub asked_at : MessageRole → Option ℕ
asked_at role.Request = None
asked_at (role.Positive asked) = Some asked
asked_at (role.Negative asked) = Some asked
asked_at (role.Pending asked) = Some asked
asked_at role.KeepAlive = None
asked_at role.Stray = None
