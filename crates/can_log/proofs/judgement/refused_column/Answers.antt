use Rattle.can_log.proofs.LineReads.{means_becomes}
use Rattle.can_log.proofs.RefusedPlaces.{place_of}
use Rattle.can_log.proofs.judgement.refused_column.Goals as goal

pub returns-in-Means-clause-none : goal.returns-in-Means-clause-none
returns-in-Means-clause-none c = means_becomes _ c.in-Means.field-0 c.in-Means.ensures

pub returns-in-Refused-clause-some : goal.returns-in-Refused-clause-some
returns-in-Refused-clause-some c = place_of _ c.in-Refused.column c.requires.clean c.in-Refused.ensures
