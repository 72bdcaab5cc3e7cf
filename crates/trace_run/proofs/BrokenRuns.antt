-- What a run answers where reading failed, or writing before a read.
use Rattle.std.proofs.Common.{◌≡◌, ℕ, true, false, List, [], take, drop, refl, sym, subst, Err}
use Rattle.std.proofs.lemmas.List.{take-append-drop, length-take-le}
use Rattle.isotp_receive.specs.declared.TheConstants.{MESSAGE_LIMIT}
use Rattle.trace_io.specs.declared.device.Target.{Ghosts as TargetGhosts}
use Rattle.trace_log.specs.declared.fault.Fault.{Fault}
use Rattle.trace_log.specs.declared.fault.Fault.TheVariants as fault
use Rattle.trace_log.proofs.Promises.{writes_to_failed_read}
use Rattle.trace_run.specs.Ran.{command_of}
use Rattle.trace_run.specs.Script.{GlimpseValue}
use Rattle.trace_run.specs.declared.machine.Machine.{Ghosts as MachineGhosts}
use Rattle.trace_run.specs.proving.Carrying.{HasSaid, blank_sheet}
use Rattle.trace_run.specs.proving.Receiving.{RunState}
use Rattle.trace_run.proofs.Carryings.{wrote_all, wrote_front}
use Rattle.trace_run.proofs.Runs.{Begun, Fed, Answers, text, passes, old, each_passes}
use Rattle.trace_run.proofs.SaidFronts.{front_of_read}

module _ {A M W : Type 0} {machine : MachineGhosts M A} {target : TargetGhosts W}
    (begun : Begun machine target) (now : RunState M W) (glimpse : GlimpseValue) (answer : Fault) (new : W)
    (log : List ℕ) (given : ℕ) where
  -- a read failed: all that was said is written
  pub answers_failed_read : Fed machine target begun.state begun.settings.max_bytes log given (Err fault.Read) now
      → answer ≡ fault.Read → new ≡ now.target → Answers begun glimpse log given new answer
  answers_failed_read (meanings, taken, few, inside, (standing, stood)) is same =
      let settings = begun.settings in
      let so_far = (taken settings begun.machine_start begun.is).1 in
      let carries =
      subst (λ w. HasSaid target begun.state.target (text begun meanings) (blank_sheet false) w) (sym same) so_far.carried in
      subst (Answers begun glimpse log given new) (sym is)
      (writes_to_failed_read (passes begun) (text begun) settings log given meanings (old begun) (target.taken new)
      (take given log) (drop given log) standing stood (sym (take-append-drop given log)) (each_passes begun meanings so_far.within)
      (wrote_all target begun.state.target new (text begun meanings) carries) (length-take-le given log inside) few)

  -- a write failed before a read: a front of it is
  pub answers_failed_write : Fed machine target begun.state begun.settings.max_bytes log given (Err fault.Write) now
      → answer ≡ fault.Write → new ≡ now.target → Answers begun glimpse log given new answer
  answers_failed_write (meanings, taken, few, inside, (standing, stood)) is same =
      let settings = begun.settings in
      let so_far = (taken settings begun.machine_start begun.is).1 in
      let carries =
      subst (λ w. HasSaid target begun.state.target (text begun meanings) (blank_sheet true) w) (sym same) so_far.carried in
      subst (Answers begun glimpse log given new) (sym is)
      (front_of_read (command_of machine glimpse begun.settings.rules begun.machine_start) MESSAGE_LIMIT settings log given fault.Read meanings
      (old begun) (target.taken new)
      (writes_to_failed_read (passes begun) (text begun) settings log given meanings [] (text begun meanings)
      (take given log) (drop given log) standing stood (sym (take-append-drop given log)) (each_passes begun meanings so_far.within)
      refl (length-take-le given log inside) few)
      (wrote_front target begun.state.target new (text begun meanings) true carries) (carries.failed_some refl))
