-- What a page says of answers.
use Rattle.std.proofs.Common.{◌≡◌, ℕ, Bool, true, false, refl}
use Rattle.std.specs.Prelude.{◌↔◌, if◌then◌else◌}
use Rattle.uds_message.specs.Message.{is_negative_response}
use Rattle.trace_report.specs.Laws.{NegativeIsNegative}
use Rattle.trace_report.specs.declared.roles.MessageRole.{MessageRole}
use Rattle.trace_report.specs.declared.roles.MessageRole.TheVariants as is

abbrev by_test : ℕ → Bool → MessageRole
by_test asked negative = if negative then is.Negative asked else is.Positive asked

told_by : (asked : ℕ) (negative : Bool) → (by_test asked negative ≡ is.Negative asked) ↔ (negative ≡ true)
told_by asked true = (λ same. refl, λ so. refl)
told_by asked false = (λ same. absurd (cc), λ so. absurd (cc))

pub negative_is_negative : NegativeIsNegative
negative_is_negative asked d bytes = told_by asked (is_negative_response bytes)
