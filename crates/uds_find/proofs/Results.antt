-- Results: what follows from what is known where one is a value, or an error.
use Rattle.std.proofs.Common.{Result, Ok, Err}
use Rattle.std.specs.Prelude.{OnErr, OnOk}

pub when_err : {A E P : Type 0} (result : Result A E) → P → OnErr result P
when_err (Ok value) known = tt
when_err (Err fault) known = known

pub ok_along : {A E P Q : Type 0} (result : Result A E) → OnOk result P → (P → Q) → OnOk result Q
ok_along (Ok value) known follows = follows known
ok_along (Err fault) known follows = tt

pub err_along : {A E P Q : Type 0} (result : Result A E) → OnErr result P → (P → Q) → OnErr result Q
err_along (Ok value) known follows = tt
err_along (Err fault) known follows = follows known
