use Rattle.std.proofs.Common.{◌≡◌, refl}
use Rattle.can_log.specs.Line.{bytes_spelled}
use Rattle.can_log.specs.proving.Plain.{digits_of}
use Rattle.can_log.proofs.PlainLines.{plain_frame}
use Rattle.can_log.proofs.plain.put_plain_stamped.Goals as goal

pub change-requires-clause-frame : goal.change-requires-clause-frame
change-requires-clause-frame c =
    let body = c.args.fields.body in
    let spelled : bytes_spelled c.plain_digits.result.now ≡ bytes_spelled (digits_of body) = rw c.plain_digits.ensures.digits refl in
    plain_frame body.flags c.args.fields.identifier.now (digits_of body) _ _ _ c.requires.legal.identifier c.requires.legal.body.digits
    c.requires.identifier c.plain_kind.ensures spelled
