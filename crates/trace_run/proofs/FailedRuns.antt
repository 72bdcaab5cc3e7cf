-- What a run answers on a fault, whatever the fault: what it has written then, and what became of its devices.
use Rattle.std.proofs.Common.{◌≡◌, ◌≢◌, ◌⊎◌, ℕ, Bool, true, false, List, sym, subst, ◌∙◌, Err, inl, inr}
use Rattle.isotp_receive.specs.declared.TheConstants.{MESSAGE_LIMIT}
use Rattle.trace_io.specs.declared.device.Target.{Ghosts as TargetGhosts}
use Rattle.trace_log.specs.Feeding.{WroteBefore}
use Rattle.trace_log.specs.Needing.{HasFrame, IsKeptOrMasked}
use Rattle.trace_log.specs.declared.fault.Fault.{Fault}
use Rattle.trace_log.specs.declared.fault.Fault.TheVariants as fault
use Rattle.trace_log.proofs.Promises.{Begins}
use Rattle.trace_run.specs.AnswersAndWrites.{WritesSaidEagerly}
use Rattle.trace_run.specs.Script.{GlimpseValue}
use Rattle.trace_run.specs.declared.machine.Machine.{Ghosts as MachineGhosts}
use Rattle.trace_run.specs.proving.Carrying.{HasSaid, WritesOn, blank_sheet}
use Rattle.trace_run.specs.proving.Ending.{EndsOn, GivesUp}
use Rattle.trace_run.specs.proving.Receiving.{RunState, of_pairs, IsSureOf}
use Rattle.trace_run.proofs.BrokenRuns.{answers_failed_read, answers_failed_write}
use Rattle.trace_run.proofs.DeviceFaults.{FollowsRead, FollowsWriting}
use Rattle.trace_run.proofs.MemoryRuns.{answers_memory, frame_needed}
use Rattle.trace_run.proofs.OversizeRuns.{answers_oversize}
use Rattle.trace_run.proofs.RefusedRuns.{answers_bad_line, answers_log_limit, refuses_all, settles_refusal}
use Rattle.trace_run.proofs.Runs.{Begun, Fed, FedSome, Answers, script, text, old}
use Rattle.trace_run.proofs.SaidFronts.{more_at_fault, only_more, writes_said_eagerly}

-- What is carried to the target where a run ends with this answer on a fault, and what the answer tells.
pub record EndsCarrying {W : Type 0} (target : TargetGhosts W) (old : W) (why answer : Fault) (new : W) : Type 0 where
  pub said : List ℕ
  pub failed : Bool
  pub carried : HasSaid target old said (blank_sheet failed) new
  pub writing : FollowsWriting failed answer
  pub reading : FollowsRead why answer

module _ {A M W : Type 0} {machine : MachineGhosts M A} {target : TargetGhosts W}
    (begun : Begun machine target) (now : RunState M W) where
  -- what was written before the last piece, and what came after it
  pub eagerly : (log : List ℕ) (given : ℕ)
      → WroteBefore (of_pairs (IsSureOf machine target)) (begun.state.receiver, begun.state.target) log given
      (now.receiver, now.target)
      → (new : W) → WritesOn target now.receiver.telling.sheet now.target new
      → WritesSaidEagerly (script begun) MESSAGE_LIMIT begun.settings log given (old begun) (target.taken new)
  eagerly log given before new more =
      let wrote = before.written begun.settings begun.machine_start begun.is in
      writes_said_eagerly (script begun) begun.settings log given before.front before.rest before.meanings before.standing
      (old begun) (target.taken wrote.mid) (target.taken new)
      before.stands before.parts before.near wrote.within wrote.wrote (more wrote.mid wrote.said wrote.carried)

  module _ (glimpse : GlimpseValue) (answer : Fault) (new : W) where
    -- only more is written
    pub ends_behind : (why : Fault) → FedSome machine target begun.state (Err why) now
        → GivesUp machine target glimpse why now.receiver now.target answer new
        → WritesOn target now.receiver.telling.sheet now.target new
    ends_behind (fault.BadLine line column) (meanings, taken) up mid said carries =
        more_at_fault (fault.BadLine line column) answer mid _ new
        (settles_refusal begun now glimpse answer new (fault.BadLine line column) meanings taken up mid said carries)
    ends_behind fault.LogLimit (meanings, taken) up mid said carries =
        more_at_fault fault.LogLimit answer mid _ new
        (settles_refusal begun now glimpse answer new fault.LogLimit meanings taken up mid said carries)
    ends_behind (fault.Oversize line announced) takes up mid said carries =
        more_at_fault (fault.Oversize line announced) answer mid said new (up mid said carries)
    ends_behind fault.OutputLimit takes up mid said carries = absurd takes
    ends_behind fault.Memory takes up mid said carries =
        more_at_fault fault.Memory answer mid said new (up mid said carries)
    ends_behind fault.Read takes up mid said carries =
        subst (λ w. Begins (target.taken mid) (target.taken w)) (sym up.1) (only_more carries)
    ends_behind fault.Write takes up mid said carries =
        subst (λ w. Begins (target.taken mid) (target.taken w)) (sym up.1) (only_more carries)

    -- the fault is of no device: what is said before it is written, or that failed
    ends_written : (why : Fault) (said : List ℕ) → why ≢ fault.Write → why ≢ fault.Read
        → (answer ≢ fault.Read → FollowsRead why answer)
        → EndsOn target why begun.state.target said answer new → EndsCarrying target begun.state.target why answer new
    ends_written why said not_write not_read follows (inl well) = record {
      said = said;
      failed = false;
      carried = well.1;
      writing = subst (λ f. f ≢ fault.Write) (sym well.0) not_write;
      reading = follows (subst (λ f. f ≢ fault.Read) (sym well.0) not_read);
    }
    ends_written why said not_write not_read follows (inr wrong) = record {
      said = said;
      failed = true;
      carried = wrong.1;
      writing = wrong.0;
      reading = follows (subst (λ f. f ≢ fault.Read) (sym wrong.0) (λ is. absurd (cc is)));
    }

    -- what is carried then, whatever the fault
    pub ends_carrying : (why : Fault) → FedSome machine target begun.state (Err why) now
        → GivesUp machine target glimpse why now.receiver now.target answer new
        → EndsCarrying target begun.state.target why answer new
    ends_carrying (fault.BadLine line column) (meanings, taken) up =
        ends_written (fault.BadLine line column) _ (λ is. absurd (cc is)) (λ is. absurd (cc is)) (λ apart. apart)
        (refuses_all begun now glimpse answer new (fault.BadLine line column) meanings taken up)
    ends_carrying fault.LogLimit (meanings, taken) up =
        ends_written fault.LogLimit _ (λ is. absurd (cc is)) (λ is. absurd (cc is)) (λ apart. apart)
        (refuses_all begun now glimpse answer new fault.LogLimit meanings taken up)
    ends_carrying (fault.Oversize line announced) (meanings, what, stops) up =
        ends_written (fault.Oversize line announced) (text begun meanings) (λ is. absurd (cc is)) (λ is. absurd (cc is)) (λ apart. apart)
        (up begun.state.target _ (stops begun.settings begun.machine_start begun.is).stopped.carried)
    ends_carrying fault.OutputLimit takes up = absurd takes
    ends_carrying fault.Memory (meanings, what, stops) up =
        ends_written fault.Memory (text begun meanings) (λ is. absurd (cc is)) (λ is. absurd (cc is)) (λ apart. apart)
        (up begun.state.target _ (stops begun.settings begun.machine_start begun.is).stopped.carried)
    ends_carrying fault.Read (meanings, taken) up = record {
      said = text begun meanings;
      failed = false;
      carried =
          subst (λ w. HasSaid target begun.state.target (text begun meanings) (blank_sheet false) w) (sym up.1)
          (taken begun.settings begun.machine_start begun.is).1.carried;
      writing = subst (λ f. f ≢ fault.Write) (sym up.0) (λ is. absurd (cc is));
      reading = up.0;
    }
    ends_carrying fault.Write (meanings, taken) up = record {
      said = text begun meanings;
      failed = true;
      carried =
          subst (λ w. HasSaid target begun.state.target (text begun meanings) (blank_sheet true) w) (sym up.1)
          (taken begun.settings begun.machine_start begun.is).1.carried;
      writing = up.0;
      reading = subst (λ f. f ≢ fault.Read) (sym up.0) (λ is. absurd (cc is));
    }

    module _ (log : List ℕ) (given : ℕ) where
      -- what is answered, and written
      pub answers_on_fault : (why : Fault) → Fed machine target begun.state begun.settings.max_bytes log given (Err why) now
          → GivesUp machine target glimpse why now.receiver now.target answer new
          → Answers begun glimpse log given new answer
      answers_on_fault (fault.BadLine line column) read up =
          answers_bad_line begun now glimpse answer new log given line column read up
      answers_on_fault fault.LogLimit read up = answers_log_limit begun now glimpse answer new log given read up
      answers_on_fault (fault.Oversize line announced) read up =
          answers_oversize begun now glimpse answer new log given line announced read up
      answers_on_fault fault.OutputLimit read up = absurd read
      answers_on_fault fault.Memory read up = answers_memory begun now log given glimpse answer new read up
      answers_on_fault fault.Read read up = answers_failed_read begun now glimpse answer new log given read up.0 up.1
      answers_on_fault fault.Write read up = answers_failed_write begun now glimpse answer new log given read up.0 up.1

      -- another fault than refused memory is answered as itself, or as that of writing
      apart_from_memory : (why : Fault) (said : List ℕ) → why ≢ fault.Memory
          → EndsOn target why begun.state.target said answer new
          → answer ≢ fault.Memory
      apart_from_memory why said apart (inl well) = λ refused. apart (sym well.0 ∙ refused)
      apart_from_memory why said apart (inr wrong) = λ refused. absurd (cc (wrong.0, refused))

      -- where memory is refused, a frame of the log needed it
      pub memory_was_needed : (why : Fault)
          → Fed machine target begun.state begun.settings.max_bytes log given (Err why) now
          → GivesUp machine target glimpse why now.receiver now.target answer new → answer ≡ fault.Memory
          → HasFrame (λ T e. IsKeptOrMasked MESSAGE_LIMIT begun.settings.rules T e
          ⊎ machine.needs begun.settings.rules begun.machine_start T e) begun.settings log
      memory_was_needed (fault.BadLine line column) (meanings, taken, place) up refused =
          absurd (apart_from_memory (fault.BadLine line column) _ (λ same. absurd (cc same))
          (refuses_all begun now glimpse answer new (fault.BadLine line column) meanings taken up) refused)
      memory_was_needed fault.LogLimit (meanings, taken, long, come, stood) up refused =
          absurd (apart_from_memory fault.LogLimit _ (λ same. absurd (cc same))
          (refuses_all begun now glimpse answer new fault.LogLimit meanings taken up) refused)
      memory_was_needed (fault.Oversize line announced) (meanings, what, stops, place) up refused =
          absurd (apart_from_memory (fault.Oversize line announced) (text begun meanings) (λ same. absurd (cc same))
          (up begun.state.target _ (stops begun.settings begun.machine_start begun.is).stopped.carried) refused)
      memory_was_needed fault.OutputLimit read up refused = absurd read
      memory_was_needed fault.Memory read up refused = frame_needed begun now log given read
      memory_was_needed fault.Read read up refused = absurd (cc (up.0, refused))
      memory_was_needed fault.Write read up refused = absurd (cc (up.0, refused))
