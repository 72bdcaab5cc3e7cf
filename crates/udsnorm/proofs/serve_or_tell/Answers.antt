use Rattle.std.proofs.Common.{ap, map, refl}
use Rattle.std.specs.Prelude.{string_bytes}
use Rattle.udsnorm.proofs.Serving.{served_of_same}
use Rattle.udsnorm.proofs.serve_or_tell.Goals as goal

pub returns-in-Ok : goal.returns-in-Ok
returns-in-Ok g c = record { served = rw c.in-Ok.is (served_of_same (ap (map string_bytes) c.as_slice.ensures.value) c.serve.ensures.served) }

pub returns-in-Err : goal.returns-in-Err
returns-in-Err g c = record { served = rw c.in-Err.is (refl, c.tell.ensures) }
