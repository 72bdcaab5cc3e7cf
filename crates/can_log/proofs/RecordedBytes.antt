-- What a line records are bytes: each is spelled by two hexadecimal digits.
use Rattle.std.proofs.Common.{Some, None, subst, sym}
use Rattle.can_log.specs.declared.frame.Stamped.{Stamped}
use Rattle.can_log.specs.Frame.{AreBytes}
use Rattle.can_log.specs.Line.{Body, classic, remote, fd, IsBody, data_of}
use Rattle.can_log.specs.Laws.{LineRecordsBytes}
use Rattle.can_log.proofs.SpelledBytes.{spelled_are_bytes}

body_has_bytes : (body : Body) → IsBody body → AreBytes (data_of body)
body_has_bytes (classic digits None) is = spelled_are_bytes digits is.0.each
body_has_bytes (classic digits (Some raw_dlc)) is = spelled_are_bytes digits is.0.0.each
body_has_bytes (remote digit raw_dlc) is = tt
body_has_bytes (fd flags digits) is = spelled_are_bytes digits is.1.0.each

pub line_records_bytes : LineRecordsBytes
line_records_bytes line stamped means =
    subst (λ (s : Stamped). AreBytes s.frame.bytes) (sym means.3) (body_has_bytes means.0.body means.1.body)
