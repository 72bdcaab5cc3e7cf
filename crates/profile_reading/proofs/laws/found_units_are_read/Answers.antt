use Rattle.profile_reading.proofs.Files.{profiles_are_read_as_meant}
use Rattle.profile_reading.proofs.Lines.{lines_are_read_back}
use Rattle.profile_reading.proofs.Told.{identifiers_are_read_back, names_are_legal, units_are_read_as_meant}
use Rattle.profile_reading.proofs.laws.found_units_are_read.Goals as goal

pub returns-clause-names : goal.returns-clause-names
returns-clause-names c = names_are_legal

pub returns-clause-identifiers : goal.returns-clause-identifiers
returns-clause-identifiers c = identifiers_are_read_back

pub returns-clause-units : goal.returns-clause-units
returns-clause-units c = units_are_read_as_meant

pub returns-clause-profiles : goal.returns-clause-profiles
returns-clause-profiles c = profiles_are_read_as_meant

pub returns-clause-lines : goal.returns-clause-lines
returns-clause-lines c = lines_are_read_back
