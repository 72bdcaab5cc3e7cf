-- What a run answers where memory is refused, and the frame that needed it.
use Rattle.std.proofs.Common.{◌≡◌, ◌⊎◌, ℕ, ◌<◌, Bool, true, false, List, [], ◌∷◌, ◌++◌, length, arith, refl, ap, sym, subst}
use Rattle.std.proofs.Common.{◌∙◌, Option, Err, inl, inr, length-append}
use Rattle.std.specs.List.{AllByRecursion}
use Rattle.std.specs.Prelude.{min}
use Rattle.can_log.specs.declared.frame.Stamped.{Stamped}
use Rattle.isotp_receive.specs.declared.TheConstants.{MESSAGE_LIMIT}
use Rattle.trace_io.specs.Written.{HasFront}
use Rattle.trace_io.specs.declared.device.Target.{Ghosts as TargetGhosts}
use Rattle.trace_log.specs.Feeding.{StopsWithin}
use Rattle.trace_log.specs.LinesRead.{counts_last}
use Rattle.trace_log.specs.Needing.{HasFrame, IsKeptOrMasked}
use Rattle.trace_log.specs.Trace.{trace}
use Rattle.trace_log.specs.declared.fault.Fault.{Fault}
use Rattle.trace_log.specs.declared.fault.Fault.TheVariants as fault
use Rattle.trace_log.specs.proving.Announcing.{AnnouncesWithin}
use Rattle.trace_log.specs.proving.Receiving.{entry_in}
use Rattle.trace_log.proofs.Promises.{HaveCome, each_more, has_frame, have_come, trace_next}
use Rattle.trace_run.specs.AnswersAndWrites.{HasSomeToSay, WritesFrontOfSaid}
use Rattle.trace_run.specs.Script.{GlimpseValue, said_of_frames}
use Rattle.trace_run.specs.declared.machine.Machine.{Ghosts as MachineGhosts}
use Rattle.trace_run.specs.proving.Carrying.{HasSaid, blank_sheet}
use Rattle.trace_run.specs.proving.Ending.{SettlesAs}
use Rattle.trace_run.specs.proving.Receiving.{RunState, HasStoppedAt}
use Rattle.trace_run.proofs.Carryings.{wrote_front}
use Rattle.trace_run.proofs.Runs.{Begun, Fed, Answers, script, text, passes, old, each_passes}
use Rattle.trace_run.proofs.SaidFronts.{front_of_whole, said_some, writes_front_of_said}
use Rattle.trace_run.proofs.ToldFrames.{one_more_said}
use Rattle.trace_run.proofs.WrittenFronts.{front_longer}

module _ {A M W : Type 0} {machine : MachineGhosts M A} {target : TargetGhosts W}
    (begun : Begun machine target) (now : RunState M W) (log : List ℕ) (given : ℕ) where
  -- A run stopped on the line that means `what`, behind those that mean this.
  module _ (meanings : List (Option Stamped)) (what : Option Stamped)
      (stops : HasStoppedAt machine target begun.state meanings what fault.Memory now)
      (place : StopsWithin begun.settings.max_bytes log given meanings what) where
    -- what is said of the lines before goes on with that line
    goes_on : (more : List ℕ) × (text begun (meanings ++ what ∷ []) ≡ text begun meanings ++ more)
    goes_on =
        let settings = begun.settings in
        let of_frame = (script begun).of_frame in
        let at = stops settings begun.machine_start begun.is in
        let T = trace settings meanings in
        let e = entry_in meanings at.stamped at.channel in (
          of_frame T e,
          ap (said_of_frames of_frame) (trace_next settings meanings what at.stamped at.channel at.means at.found)
              ∙ one_more_said of_frame T e,
        )

    -- and that line had come
    had_come : HaveCome (passes begun) true (min given begun.settings.max_bytes) log (meanings ++ what ∷ [])
    had_come =
        let settings = begun.settings in
        let at = stops settings begun.machine_start begun.is in
        let next = trace_next settings meanings what at.stamped at.channel at.means at.found in
        have_come (passes begun) settings log given meanings what place
        (each_passes begun (meanings ++ what ∷ []) (λ strict. subst (AllByRecursion AnnouncesWithin) (sym next)
        (each_more (trace settings meanings) (entry_in meanings at.stamped at.channel) (at.stopped.within strict)
        (at.stopped.reason.0 strict))))

    -- so a front of what is said of them was written
    writes_front : (failed : Bool) (why : Fault) (new : W) → counts_last why ≡ true
        → HasSaid target begun.state.target (text begun meanings) (blank_sheet failed) new
        → WritesFrontOfSaid (script begun) MESSAGE_LIMIT begun.settings log given why (old begun) (target.taken new)
    writes_front failed why new last carries =
        let more = goes_on in
        writes_front_of_said (script begun) MESSAGE_LIMIT begun.settings log given why (meanings ++ what ∷ []) (old begun)
        (target.taken new) last had_come
        (subst (λ said. HasFront (old begun) said (target.taken new)) (sym more.1)
        (front_longer (old begun) (text begun meanings) more.0 (target.taken new)
        (wrote_front target begun.state.target new (text begun meanings) failed carries)))

    -- and that is something, where what is said of the lines before is
    has_some : 0 < length (text begun meanings) → HasSomeToSay (script begun) MESSAGE_LIMIT begun.settings log given
    has_some some =
        let more = goes_on in
        let long = ap length more.1 ∙ length-append (text begun meanings) more.0 in
        said_some (script begun) MESSAGE_LIMIT begun.settings log given (meanings ++ what ∷ []) had_come (omega arith)

  -- a front of what is said was written, or writing failed
  pub answers_memory : (glimpse : GlimpseValue) (answer : Fault) (new : W)
      → Fed machine target begun.state begun.settings.max_bytes log given (Err fault.Memory) now
      → SettlesAs target fault.Memory now.receiver.telling.sheet now.target answer new
      → Answers begun glimpse log given new answer
  answers_memory glimpse answer new (meanings, what, stops, place) settles =
      let carried = (stops begun.settings begun.machine_start begun.is).stopped.carried in
      elim (settles begun.state.target (text begun meanings) carried) [
        | inl well ↦ subst (Answers begun glimpse log given new) (sym well.0)
            (writes_front meanings what stops place false fault.Memory new refl well.1)
        | inr wrong ↦ subst (Answers begun glimpse log given new) (sym wrong.0) (inl (
          front_of_whole (script begun) MESSAGE_LIMIT begun.settings log given fault.Write (old begun) (target.taken new)
              (writes_front meanings what stops place true fault.Write new refl wrong.1),
          inl (has_some meanings what stops place (wrong.1.failed_some refl)),
        ))
      ]

  -- the frame at which it was refused needed it
  pub frame_needed : Fed machine target begun.state begun.settings.max_bytes log given (Err fault.Memory) now
      → HasFrame (λ T e. IsKeptOrMasked MESSAGE_LIMIT begun.settings.rules T e
      ⊎ machine.needs begun.settings.rules begun.machine_start T e) begun.settings log
  frame_needed (meanings, what, stops, place) =
      let at = stops begun.settings begun.machine_start begun.is in
      let rules = begun.settings.rules in
      has_frame (λ T e. IsKeptOrMasked MESSAGE_LIMIT rules T e ⊎ machine.needs rules begun.machine_start T e) begun.settings log given
      meanings what at.stamped at.channel place at.means at.found at.stopped.reason.1
