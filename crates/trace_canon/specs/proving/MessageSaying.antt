-- Devices of proof: what the machine that says the lines of messages keeps.
use Rattle.std.specs.Prelude.{◌≡◌, List, Option}
use Rattle.isotp_receive.specs.declared.TheConstants.{MESSAGE_LIMIT}
use Rattle.isotp_receive.specs.Trace.{Entry}
use Rattle.trace_canon.specs.OpenRequests.{KeptRequest, asked_after}
use Rattle.trace_canon.specs.ReceptionStarts.{AreStartsAfter}
use Rattle.trace_canon.specs.declared.reception_starts.ReceptionStarts.{ReceptionStarts}
use Rattle.uds_rules.specs.Rule.{RuleValue}
use Rattle.trace_text.specs.declared.notation.Notation.{Notation}
use Rattle.trace_text.specs.declared.notation.Notation.TheVariants.{Json}

-- This is what the machine that says the lines of messages in a notation and under rules keeps of the frames T.
pub record SaysMessages (notation : Notation) (rules : List RuleValue) (T : List Entry)
    (own_notation : Notation) (own_rules : List RuleValue) (starts : ReceptionStarts) (asking : Option KeptRequest) : Type 0 where
  pub same : own_notation ≡ notation
  pub same_rules : own_rules ≡ rules
  pub begun : AreStartsAfter MESSAGE_LIMIT T starts
  -- in words no request is kept
  pub asked : notation ≡ Json → asking ≡ asked_after MESSAGE_LIMIT rules T
