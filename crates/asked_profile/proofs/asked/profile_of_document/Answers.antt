-- Memory is refused where the profile takes some, or what is told of a wrong one.
use Rattle.std.proofs.Common.{subst, Err}
use Rattle.toml.specs.View.{table_view}
use Rattle.profile.specs.Answers.{Reads}
use Rattle.profile.specs.Profile.{profile_of}
use Rattle.profile.specs.Wrong.{wrong_value}
use Rattle.asked_profile.proofs.Told.{lacks_memory, of_wrong}
use Rattle.asked_profile.proofs.asked.profile_of_document.Goals as goal

pub returns-in-Err-Memory : goal.returns-in-Err-Memory
returns-in-Err-Memory c =
    let document = table_view c.args.document.now in
    lacks_memory document (subst (λ why. Reads (profile_of document) (Err why)) c.in-Err-Memory.field-0-is c.in-Err-Memory.ensures)

pub returns-in-Err-Wrong : goal.returns-in-Err-Wrong
returns-in-Err-Wrong c =
    let document = table_view c.args.document.now in
    of_wrong document (wrong_value c.in-Err-Wrong.wrong) c.told.result
    (subst (λ why. Reads (profile_of document) (Err why)) c.in-Err-Wrong.field-0-is c.in-Err-Wrong.ensures) c.told.ensures
