-- What a page says of times.
use Rattle.std.proofs.Common.{ℕ, Bool, List, refl, ap, ◌∙◌}
use Rattle.std.specs.Prelude.{if◌then◌else◌}
use Rattle.isotp_receive.specs.Trace.{Entry}
use Rattle.uds_rules.specs.Rule.{RuleValue}
use Rattle.trace_report.specs.Events.{asked_in}
use Rattle.trace_report.specs.Laws.{AfterIsFromTheLastFrame, AfterIsToTheFirstFrame, TimeIsOfTheLastFrame}
use Rattle.trace_report.specs.declared.roles.MessageRole.TheVariants as is
use Rattle.trace_report.proofs.Steps.{asked_next}

pub time_is_of_the_last_frame : TimeIsOfTheLastFrame
time_is_of_the_last_frame rules origin time is.Request d place bytes none = refl
time_is_of_the_last_frame rules origin time (is.Positive asked) d place bytes none = absurd (cc)
time_is_of_the_last_frame rules origin time (is.Negative asked) d place bytes none = absurd (cc)
time_is_of_the_last_frame rules origin time (is.Pending asked) d place bytes none = absurd (cc)
time_is_of_the_last_frame rules origin time is.KeepAlive d place bytes none = refl
time_is_of_the_last_frame rules origin time is.Stray d place bytes none = refl

pub after_is_to_the_first_frame : AfterIsToTheFirstFrame
after_is_to_the_first_frame time count is place = refl

-- by whether the frame completes a request
abbrev asked_by : ℕ → List RuleValue → List Entry → Entry → Bool → ℕ
asked_by limit rules T e completes = if completes then e.micros else asked_in limit rules T

pub after_is_from_the_last_frame : AfterIsFromTheLastFrame
after_is_from_the_last_frame limit rules T e =
    (λ so. asked_next limit rules T e ∙ ap (asked_by limit rules T e) so, λ so. asked_next limit rules T e ∙ ap (asked_by limit rules T e) so)
