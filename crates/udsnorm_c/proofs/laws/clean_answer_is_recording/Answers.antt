use Rattle.udsnorm_c.proofs.PairsTold.{clean_compare, clean_diff, clean_report_pair}
use Rattle.udsnorm_c.proofs.Recorded.{clean_explain, clean_list, clean_messages, clean_normalise, clean_report}
use Rattle.udsnorm_c.proofs.laws.clean_answer_is_recording.Goals as goal

pub returns-clause-normalise : goal.returns-clause-normalise
returns-clause-normalise c = clean_normalise c.clean_log_has_both_sides.ensures

pub returns-clause-list : goal.returns-clause-list
returns-clause-list c = clean_list c.clean_log_has_both_sides.ensures

pub returns-clause-messages : goal.returns-clause-messages
returns-clause-messages c = clean_messages c.clean_log_has_both_sides.ensures

pub returns-clause-explain : goal.returns-clause-explain
returns-clause-explain c = clean_explain c.clean_log_has_both_sides.ensures

pub returns-clause-report : goal.returns-clause-report
returns-clause-report c = clean_report c.clean_log_has_both_sides.ensures

pub returns-clause-compare : goal.returns-clause-compare
returns-clause-compare c = clean_compare c.clean_log_has_both_sides.ensures

pub returns-clause-diff : goal.returns-clause-diff
returns-clause-diff c = clean_diff c.clean_log_has_both_sides.ensures

pub returns-clause-report_pair : goal.returns-clause-report_pair
returns-clause-report_pair c = clean_report_pair c.clean_log_has_both_sides.ensures
