use Rattle.trace_log.proofs.Texts.{early_text_stays, early_text_grows}
use Rattle.trace_log.proofs.laws.early_text_stays.Goals as goal

pub returns-clause-stays : goal.returns-clause-stays
returns-clause-stays c = early_text_stays

pub returns-clause-grows : goal.returns-clause-grows
returns-clause-grows c = early_text_grows
