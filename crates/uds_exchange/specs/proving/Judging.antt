-- Devices of proof: what a judge keeps with one more message.
use Rattle.std.specs.Prelude.{ℕ, ◌-◌, ◌||◌, Some, None}
use Rattle.direction.specs.Dir.{Message}
use Rattle.uds_exchange.specs.Exchanged.{is_tester_response, is_unit_non_response}
use Rattle.uds_exchange.specs.Judging.{one_more}
use Rattle.uds_exchange.specs.Meaning.{is_tester_request}
use Rattle.uds_exchange.specs.declared.judge.Judge.{Judge}
use Rattle.uds_exchange.specs.declared.sides.Sides.{Sides}
use Rattle.uds_exchange.specs.declared.step.Step.{Step}
use Rattle.uds_exchange.specs.declared.step.Step.TheVariants as step

-- what a judge keeps after this step
abbrev pub judge_after_step : Step → Judge → Judge
judge_after_step (step.Request service) judge =
    record judge { open_sid = Some service; items = one_more judge.items; held_count = 0 }
judge_after_step step.Answer judge = record judge { open_sid = None; held_count = 0 }
judge_after_step step.Removed judge = record judge { removed = one_more judge.removed }
judge_after_step step.Hold judge = record judge { items = one_more judge.items; held_count = one_more judge.held_count }
judge_after_step step.Pass judge = record judge { items = one_more judge.items }

-- the number of the item of the message, by what the judge kept before it
abbrev pub number_in : Step → Judge → ℕ
number_in (step.Request service) judge = one_more judge.items
number_in step.Answer judge = judge.items - judge.held_count
number_in step.Removed judge = judge.items - judge.held_count
number_in step.Hold judge = one_more judge.items
number_in step.Pass judge = one_more judge.items

-- what tells whether tester and unit are swapped, with one more message that is no request
abbrev pub noted_other : Message → Sides → Sides
noted_other message sides = record sides {
  tester_responds = sides.tester_responds || is_tester_response message;
  unit_sends_other = sides.unit_sends_other || is_unit_non_response message;
}

-- what tells whether tester and unit are swapped, with any one more message
abbrev pub noted : Message → Sides → Sides
noted message sides = record {
  tester_asked = sides.tester_asked || is_tester_request message;
  tester_responds = sides.tester_responds || is_tester_response message;
  unit_sends_other = sides.unit_sends_other || is_unit_non_response message;
}
