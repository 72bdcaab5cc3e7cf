-- How the process ends, by what was done and told.
use Rattle.std.specs.Prelude.{IfErr, OnOk}
use Rattle.std.proofs.Common.{◌≡◌, ◌<◌, ℕ, inl, inr, refl, Bool, true, false, List, Option, Result, Ok, Err, subst}
use Rattle.clap.specs.Walk.{Text}
use Rattle.trace_io.specs.Counted.{CountedReader}
use Rattle.trace_io.specs.declared.device.Source.{Ghosts as SourceGhosts}
use Rattle.trace_io.specs.declared.device.Target.{Ghosts as TargetGhosts}
use Rattle.udsnorm.specs.Hints.{GaveHint}
use Rattle.udsnorm.specs.Opening.{Saying}
use Rattle.udsnorm.specs.Process.{Hinted, Served}
use Rattle.udsnorm.specs.declared.ended.Known.{Known}
use Rattle.command_line.specs.declared.job.Plan.{Plan}
use Rattle.command_line.specs.declared.job.WordsFault.{WordsFault}
use Rattle.udsnorm.specs.declared.Terminals.{Terminals}

-- what is done of some words is done of the same
pub served_of_same : {F R W E : Type 0} {says : Saying F → Type 0} {file : SourceGhosts (CountedReader F)} {source : SourceGhosts R} {output : TargetGhosts W} {errors : TargetGhosts E} {given other : List Text}
    {terminals : Terminals} {before : R} {old : W} {unsaid : E} {status : ℕ} {after : R} {new : W} {said : E} → given ≡ other
    → Served says file source output errors given terminals before old unsaid status after new said → Served says file source output errors other terminals before old unsaid status after new said
served_of_same {says = says} {file = file} {source = source} {output = output} {errors = errors} {terminals = terminals} {before = before} {old = old} {unsaid = unsaid} {status = status}
    {after = after} {new = new} {said = said} same served =
    subst (λ (texts : List Text). Served says file source output errors texts terminals before old unsaid status after new said) same served

-- where a hint was wanted it was given, or left out
pub hinted_by : {E A X : Type 0} (errors : TargetGhosts E) (asked : Result Plan WordsFault) (given : List Text) (known : Option Known) (is_wanted : Bool) (gave : Result A X) (told said : E)
    → OnOk gave (is_wanted ≡ true → errors.failures told ≡ 0 → GaveHint errors asked given known told said) → (0 < errors.failures told → said ≡ told) → (is_wanted ≡ false → said ≡ told)
    → IfErr gave (λ _. said ≡ told) → Hinted errors is_wanted asked given known told said
hinted_by errors asked given known true (Ok value) told said hint failed unwanted memory =
    record { hint = λ none. inr (hint refl none); only_there = unwanted; only_behind = failed }
hinted_by errors asked given known false (Ok value) told said hint failed unwanted memory =
    record { hint = λ none. inl (unwanted refl); only_there = unwanted; only_behind = failed }
hinted_by errors asked given known is_wanted (Err fault) told said hint failed unwanted memory =
    record { hint = λ none. inl memory; only_there = unwanted; only_behind = failed }
