-- What is known of an answer for each index of a family, known of all of it: lemmas that say nothing of runs.
use Rattle.std.proofs.Common.{Result, Ok, Err}
use Rattle.std.specs.Prelude.{OnOk, IfErr}

-- of a result that is a value
pub on_ok_of_each : {A E I : Type 0} (P Q R : I → Type 0) (r : Result A E) → ((i : I) → P i → Q i → OnOk r (R i))
    → OnOk r ((i : I) → P i → Q i → R i)
on_ok_of_each P Q R (Ok x) each = each
on_ok_of_each P Q R (Err e) each = tt

-- of one that is an error, by that error
pub if_err_of_each : {A E I : Type 0} (P Q : I → Type 0) (R : I → E → Type 0) (r : Result A E)
    → ((i : I) → P i → Q i → IfErr r (R i)) → IfErr r (λ e. (i : I) → P i → Q i → R i e)
if_err_of_each P Q R (Ok x) each = tt
if_err_of_each P Q R (Err e) each = each
