-- What a run answers where a bad line or the limit refuses the log, of which the machine is told.
use Rattle.std.proofs.Common.{◌≡◌, ℕ, ◌≤◌, true, List, length, take, drop, arith, refl, sym, subst, Option, Err, inl, inr}
use Rattle.std.proofs.lemmas.List.{take-append-drop, length-take-le}
use Rattle.can_log.specs.declared.frame.Stamped.{Stamped}
use Rattle.isotp_receive.specs.declared.TheConstants.{MESSAGE_LIMIT}
use Rattle.trace_io.specs.declared.device.Target.{Ghosts as TargetGhosts}
use Rattle.trace_log.specs.LinesRead.{AreReadBefore}
use Rattle.trace_log.specs.declared.fault.Fault.{Fault}
use Rattle.trace_log.specs.declared.fault.Fault.TheVariants as fault
use Rattle.trace_log.proofs.Promises.{IsBadBehind, bad_in_front, bad_at_end, read_to_bad, read_to_limit}
use Rattle.trace_run.specs.Stopping.{IsUnreadFor, is_told}
use Rattle.trace_run.specs.AnswersAndWrites.{WritesSaidAndRefusal}
use Rattle.trace_run.specs.Ran.{command_of}
use Rattle.trace_run.specs.Script.{GlimpseValue, refusal_of_lines, said_and_refusal_of_lines}
use Rattle.trace_run.specs.declared.machine.Machine.{Ghosts as MachineGhosts}
use Rattle.trace_run.specs.proving.Ending.{EndsOn, RefusesSaying, SettlesWith}
use Rattle.trace_run.specs.proving.Receiving.{RunState, HasTaken}
use Rattle.trace_run.proofs.Carryings.{wrote_all, wrote_front}
use Rattle.trace_run.proofs.Runs.{Begun, Fed, Answers, script, text, passes, old, each_passes}
use Rattle.trace_run.proofs.SaidFronts.{front_of_refused}
use Rattle.trace_run.proofs.StoppedLines.{unread_for_place, unread_for_limit}

module _ {A M W : Type 0} {machine : MachineGhosts M A} {target : TargetGhosts W}
    (begun : Begun machine target) (now : RunState M W) (glimpse : GlimpseValue) (answer : Fault) (new : W) where
  -- what is said of the refusal is written behind what was said before, or that failed
  pub settles_refusal : (why : Fault) (meanings : List (Option Stamped)) → HasTaken machine target begun.state meanings now
      → RefusesSaying machine target glimpse why now.receiver now.target answer new
      → SettlesWith target
      (refusal_of_lines (machine.refusal begun.settings.rules begun.machine_start glimpse) MESSAGE_LIMIT begun.settings why meanings)
      why now.receiver.telling.sheet now.target answer new
  settles_refusal why meanings taken up =
      let so_far = taken begun.settings begun.machine_start begun.is in
      up begun.machine_start begun.settings meanings so_far.0.lines so_far.1.judged so_far.1.machine_stands

  -- so what is said of all lines and of the refusal is written, or that failed
  pub refuses_all : (why : Fault) (meanings : List (Option Stamped)) → HasTaken machine target begun.state meanings now
      → RefusesSaying machine target glimpse why now.receiver now.target answer new
      → EndsOn target why begun.state.target
      (said_and_refusal_of_lines (machine.script begun.settings.rules begun.machine_start)
      (machine.refusal begun.settings.rules begun.machine_start glimpse) MESSAGE_LIMIT begun.settings why meanings) answer new
  refuses_all why meanings taken up =
      settles_refusal why meanings taken up begun.state.target (text begun meanings)
      (taken begun.settings begun.machine_start begun.is).1.carried

  module _ (log : List ℕ) (given : ℕ) where
    -- the log is refused for this reason, behind these lines
    answers_refusal : (why : Fault) (meanings : List (Option Stamped)) → is_told why ≡ true
        → HasTaken machine target begun.state meanings now
        → IsUnreadFor (machine.script begun.settings.rules begun.machine_start).strict MESSAGE_LIMIT begun.settings log why
        → AreReadBefore (passes begun) begun.settings log given why meanings
        → RefusesSaying machine target glimpse why now.receiver now.target answer new
        → (WritesSaidAndRefusal (command_of machine glimpse begun.settings.rules begun.machine_start) MESSAGE_LIMIT begun.settings log given why
        (old begun) (target.taken new) → Answers begun glimpse log given new why)
        → Answers begun glimpse log given new answer
    answers_refusal why meanings told taken unread read up answers =
        let of = command_of machine glimpse begun.settings.rules begun.machine_start in
        let all = said_and_refusal_of_lines of.script of.refusal MESSAGE_LIMIT begun.settings why meanings in
        elim (refuses_all why meanings taken up) [
          | inl well ↦ subst (Answers begun glimpse log given new) (sym well.0)
              (answers (record { meanings = meanings; read = read; wrote = wrote_all target begun.state.target new all well.1 }))
          | inr wrong ↦ subst (Answers begun glimpse log given new) (sym wrong.0)
              (front_of_refused of MESSAGE_LIMIT begun.settings log given why meanings (old begun) (target.taken new) told unread read
              (wrote_front target begun.state.target new all true wrong.1) (wrong.1.failed_some refl))
        ]

    -- a line is bad, which ends with this many bytes
    answers_bad : (line column bytes : ℕ) (meanings : List (Option Stamped)) → IsBadBehind log line column meanings bytes
        → bytes ≤ begun.settings.max_bytes → bytes ≤ given → HasTaken machine target begun.state meanings now
        → RefusesSaying machine target glimpse (fault.BadLine line column) now.receiver now.target answer new
        → Answers begun glimpse log given new answer
    answers_bad line column bytes meanings bad few come taken up =
        let settings = begun.settings in
        let passed = each_passes begun meanings (taken settings begun.machine_start begun.is).1.within in
        let unread = unread_for_place settings log (script begun).strict line column meanings bytes bad few passed in
        answers_refusal (fault.BadLine line column) meanings refl taken unread
        (read_to_bad (passes begun) settings log given meanings passed line column bytes bad few come) up (λ wrote. (unread, wrote))

    -- a bad line refuses the log
    pub answers_bad_line : (line column : ℕ)
        → Fed machine target begun.state begun.settings.max_bytes log given (Err (fault.BadLine line column)) now
        → RefusesSaying machine target glimpse (fault.BadLine line column) now.receiver now.target answer new
        → Answers begun glimpse log given new answer
    answers_bad_line line column (meanings, taken, inl (few, refuses)) up =
        answers_bad line column given meanings (bad_in_front log given line column meanings refuses) few (omega arith) taken up
    answers_bad_line line column (meanings, taken, inr (short, all, place)) up =
        answers_bad line column (length log) meanings (bad_at_end log line column meanings place) short (omega arith) taken up

    -- the limit refuses it
    pub answers_log_limit : Fed machine target begun.state begun.settings.max_bytes log given (Err fault.LogLimit) now
        → RefusesSaying machine target glimpse fault.LogLimit now.receiver now.target answer new
        → Answers begun glimpse log given new answer
    answers_log_limit (meanings, taken, long, come, (standing, stood)) up =
        let settings = begun.settings in
        let front = take settings.max_bytes log in
        let rest = drop settings.max_bytes log in
        let parts = sym (take-append-drop settings.max_bytes log) in
        let full = length-take-le settings.max_bytes log (omega arith) in
        let passed = each_passes begun meanings (taken settings begun.machine_start begun.is).1.within in
        let unread = unread_for_limit settings log (script begun).strict front rest meanings standing stood parts full long passed in
        answers_refusal fault.LogLimit meanings refl taken unread
        (read_to_limit (passes begun) settings log given meanings passed front rest standing stood parts full long come) up
        (λ wrote. (unread, wrote))
