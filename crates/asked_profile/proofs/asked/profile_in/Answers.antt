use Rattle.std.proofs.Common.{subst, Err}
use Rattle.profile.specs.Document.{IsDocument}
use Rattle.asked_profile.proofs.Told.{of_document, of_length, of_memory, of_place}
use Rattle.asked_profile.proofs.asked.profile_in.Goals as goal

pub returns-in-Ok : goal.returns-in-Ok
returns-in-Ok c = of_document c.args.text.now c.in-Ok.document _ c.in-Ok.ensures c.profile_of_document.ensures

pub returns-in-Err-TooLong : goal.returns-in-Err-TooLong
returns-in-Err-TooLong c =
    of_length c.args.text.now _ (subst (λ why. IsDocument c.args.text.now (Err why)) c.in-Err-TooLong.field-0-is c.in-Err-TooLong.ensures) c.told.ensures

pub returns-in-Err-NotToml : goal.returns-in-Err-NotToml
returns-in-Err-NotToml c =
    of_place c.args.text.now c.in-Err-NotToml.line c.in-Err-NotToml.column _
    (subst (λ why. IsDocument c.args.text.now (Err why)) c.in-Err-NotToml.field-0-is c.in-Err-NotToml.ensures) c.told-in-Err-NotToml.ensures

pub returns-in-Err-Memory : goal.returns-in-Err-Memory
returns-in-Err-Memory c =
    of_memory c.args.text.now (subst (λ why. IsDocument c.args.text.now (Err why)) c.in-Err-Memory.field-0-is c.in-Err-Memory.ensures)
