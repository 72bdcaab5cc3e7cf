-- Results, by their variants.
use Rattle.std.proofs.Common.{◌≡◌, Result, Ok, Err, IfOk, IfErr, OnOk, OnErr, sym, subst, ◌∙◌}
use Rattle.std.specs.Prelude.{IsErrAnd}

-- what holds of an error holds of it after a step that follows from it
pub if_err_along : {T E : Type 0} (r : Result T E) (P Q : E → Type 0) → ((e : E) → P e → Q e) → IfErr r P → IfErr r Q
if_err_along (Ok x) P Q f h = tt
if_err_along (Err e) P Q f h = f e h

-- what follows from two facts of a result that went well
pub if_ok_by : {T E : Type 0} (r : Result T E) (B : Type 0) (P Q : T → Type 0) → (B → (x : T) → P x → Q x) → OnOk r B → IfOk r P → IfOk r Q
if_ok_by (Ok x) B P Q f b p = f b x p
if_ok_by (Err e) B P Q f b p = tt

-- what holds whatever the result is, holds where it is an error
pub on_err : {T E : Type 0} (r : Result T E) (P : Type 0) → P → OnErr r P
on_err (Ok x) P h = tt
on_err (Err e) P h = h

-- the error that a `?` hands on
pub handed_on : {T E : Type 0} (r : Result T E) (fault : E) (P : E → Type 0) → IsErrAnd r (λ e. e ≡ fault) → P fault → IfErr r P
handed_on (Ok x) fault P is h = absurd is
handed_on (Err e) fault P is h = subst P (sym is) h

-- and where it hands on this one, it was this
pub handed_fault : {T E : Type 0} (r : Result T E) (fault handed : E) → IsErrAnd r (λ e. e ≡ fault) → r ≡ Err handed → fault ≡ handed
handed_fault (Ok x) fault handed is same = absurd is
handed_fault (Err e) fault handed is same = sym is ∙ cc same
