-- What a strict run answers where a first frame announces a message above the limit.
use Rattle.std.proofs.Common.{Some, ℕ, true, List, arith, refl, sym, subst, Err, inl, inr}
use Rattle.std.specs.Prelude.{min}
use Rattle.isotp_receive.specs.Trace.{layout_in}
use Rattle.isotp_receive.specs.declared.TheConstants.{MESSAGE_LIMIT}
use Rattle.trace_io.specs.declared.device.Target.{Ghosts as TargetGhosts}
use Rattle.trace_log.specs.LinesRead.{AreLinesRead}
use Rattle.trace_log.specs.declared.fault.Fault.{Fault}
use Rattle.trace_log.specs.declared.fault.Fault.TheVariants as fault
use Rattle.trace_log.proofs.Promises.{each_within, line_announces, oversize_stops, read_before_oversize}
use Rattle.trace_run.specs.Stopping.{IsUnreadFor, passing}
use Rattle.trace_run.specs.Ran.{command_of}
use Rattle.trace_run.specs.Script.{GlimpseValue}
use Rattle.trace_run.specs.declared.machine.Machine.{Ghosts as MachineGhosts}
use Rattle.trace_run.specs.proving.Ending.{SettlesAs}
use Rattle.trace_run.specs.proving.Receiving.{RunState}
use Rattle.trace_run.proofs.Carryings.{wrote_all, wrote_front}
use Rattle.trace_run.proofs.Runs.{Begun, Fed, Answers, text, old}
use Rattle.trace_run.proofs.SaidFronts.{front_of_read}

module _ {A M W : Type 0} {machine : MachineGhosts M A} {target : TargetGhosts W}
    (begun : Begun machine target) (now : RunState M W) (glimpse : GlimpseValue) (answer : Fault) (new : W)
    (log : List ℕ) (given : ℕ) where
  -- what is said of the lines before is written, or a front of it, where writing failed
  pub answers_oversize : (line announced : ℕ)
      → Fed machine target begun.state begun.settings.max_bytes log given (Err (fault.Oversize line announced)) now
      → SettlesAs target (fault.Oversize line announced) now.receiver.telling.sheet now.target answer new
      → Answers begun glimpse log given new answer
  unfolding layout_in
  answers_oversize line announced (meanings, what, stops, place) settles =
      let settings = begun.settings in
      let at = stops settings begun.machine_start begun.is in
      let strict = at.stopped.reason.0 in
      let same_line = at.stopped.reason.1 in
      let found = oversize_stops MESSAGE_LIMIT settings log given line announced meanings what place (omega arith)
      (each_within settings meanings (at.stopped.within strict))
      (line_announces settings what at.stamped at.channel (Some announced) at.means at.found at.stopped.reason.2) in
      let count = min given settings.max_bytes in
      let read : AreLinesRead (passing (machine.script settings.rules begun.machine_start).strict MESSAGE_LIMIT settings) true count log
      meanings =
      subst (λ b. AreLinesRead (passing b MESSAGE_LIMIT settings) true count log meanings) (sym strict)
      (read_before_oversize MESSAGE_LIMIT settings true count log line announced meanings found.0 found.2 found.1) in
      elim (settles begun.state.target (text begun meanings) at.stopped.carried) [
        | inl well ↦ subst (Answers begun glimpse log given new) (sym well.0) (
          subst (λ b. IsUnreadFor b MESSAGE_LIMIT settings log (fault.Oversize line announced)) (sym strict) found.2.over,
          record { meanings = meanings; read = read; wrote = wrote_all target begun.state.target new (text begun meanings) well.1 },
        )
        | inr wrong ↦ subst (Answers begun glimpse log given new) (sym wrong.0)
            (front_of_read (command_of machine glimpse begun.settings.rules begun.machine_start) MESSAGE_LIMIT settings log given
            (fault.Oversize line announced) meanings (old begun) (target.taken new)
            (record { meanings = meanings; read = read; wrote = refl })
            (wrote_front target begun.state.target new (text begun meanings) true wrong.1) (wrong.1.failed_some refl))
      ]
