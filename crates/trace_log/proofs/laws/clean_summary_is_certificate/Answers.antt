use Rattle.trace_log.proofs.Certificates.{certificate_knows_no_rules}
use Rattle.trace_log.proofs.ReadAgain.{clean_summary_is_certificate, summary_certifies}
use Rattle.trace_log.proofs.laws.clean_summary_is_certificate.Goals as goal

pub returns-clause-lines : goal.returns-clause-lines
returns-clause-lines c = clean_summary_is_certificate

pub returns-clause-log : goal.returns-clause-log
returns-clause-log c = summary_certifies

pub returns-clause-rules : goal.returns-clause-rules
returns-clause-rules c = certificate_knows_no_rules
