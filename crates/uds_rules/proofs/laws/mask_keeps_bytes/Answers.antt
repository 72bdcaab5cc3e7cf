use Rattle.uds_rules.proofs.Promises.{sub_function_stays, negative_response_stays, tester_present_stays}
use Rattle.uds_rules.proofs.laws.mask_keeps_bytes.Goals as goal

pub returns : goal.returns
returns c = record { sub_function = sub_function_stays; negative = negative_response_stays; tester_present = tester_present_stays }
