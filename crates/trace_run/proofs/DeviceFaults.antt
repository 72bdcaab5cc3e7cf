-- Which fault is answered: that of the target exactly where writing failed, and that of the source where reading did.
use Rattle.std.proofs.Common.{◌≡◌, ◌≢◌, ℕ, Bool, true, false, List, arith, ap, sym, ◌∙◌, length, Result, Err, length-append}
use Rattle.trace_io.specs.declared.device.Target.{Ghosts}
use Rattle.trace_log.specs.declared.fault.Fault.{Fault}
use Rattle.trace_log.specs.declared.fault.Fault.TheVariants as fault
use Rattle.trace_log.specs.Feeding.{CountsRead}
use Rattle.trace_log.specs.Devices.{WroteTo}
use Rattle.trace_log.specs.Failing.{FailedIf}
use Rattle.trace_run.specs.proving.Carrying.{HasSaid, blank_sheet}
use Rattle.trace_run.proofs.Carryings.{wrote_all}

-- the fault that is answered is that of writing where writing failed, and else another
abbrev pub FollowsWriting : Bool → Fault → Type 0
FollowsWriting false answer = answer ≢ fault.Write
FollowsWriting true answer = answer ≡ fault.Write

-- it is that of the source where the source failed, and else another
abbrev pub FollowsRead : Fault → Fault → Type 0
FollowsRead fault.Read answer = answer ≡ fault.Read
FollowsRead fault.LogLimit answer = answer ≢ fault.Read
FollowsRead fault.OutputLimit answer = answer ≢ fault.Read
FollowsRead (fault.BadLine line column) answer = answer ≢ fault.Read
FollowsRead (fault.Oversize line announced) answer = answer ≢ fault.Read
FollowsRead fault.Memory answer = answer ≢ fault.Read
FollowsRead fault.Write answer = answer ≢ fault.Read

-- the fault of the target is answered exactly where it failed
pub writes_or_fails : {A W : Type 0} (target : Ghosts W) (start new : W) (answer : Fault) (said : List ℕ) (failed : Bool)
    → HasSaid target start said (blank_sheet failed) new → FollowsWriting failed answer
    → FailedIf {A = A} fault.Write (Err answer) (target.failures start) (target.failures new)
writes_or_fails target start new answer said false carries apart =
    record { risen = λ is. (let same : answer ≡ fault.Write = cc in absurd (apart same)); same = λ _. carries.failures }
writes_or_fails target start new answer said true carries write =
    record { risen = λ _. carries.failures; same = λ other. absurd (other (ap Err write)) }

-- what was done with a target to which a text was carried, where writing failed or not
pub wrote_to : {A W : Type 0} (target : Ghosts W) (start new : W) (result : Result A Fault) (said : List ℕ) (failed : Bool)
    → HasSaid target start said (blank_sheet failed) new
    → FailedIf fault.Write result (target.failures start) (target.failures new)
    → WroteTo target fault.Write result start new
wrote_to {A = A} {W = W} target start new result said failed carries writes = record {
  took = carries.took;
  no_empty_write = carries.no_empty_write;
  flushes = carries.flushes;
  left_alone = left_alone failed carries;
  failed = writes;
}
  where
    left_alone : (failed : Bool) → HasSaid target start said (blank_sheet failed) new
        → result ≢ Err fault.Write → target.taken new ≡ target.taken start → new ≡ start
    left_alone true carries other same = absurd (omega (arith, carries.failures, writes.same other))
    left_alone false carries other same =
        let wrote = wrote_all target start new said carries in
        let long = ap length (sym wrote ∙ same) in
        let parts = length-append (target.taken start) said in
        carries.still (omega (arith, long, parts))

-- the source did not fail, and that is not the fault
reads_other : {A : Type 0} (answer : Fault) (before after : ℕ) → after ≡ before → answer ≢ fault.Read
    → FailedIf {A = A} fault.Read (Err answer) before after
reads_other answer before after same_count apart =
    record { risen = λ is. (let same : answer ≡ fault.Read = cc in absurd (apart same)); same = λ _. same_count }

-- the fault of the source is answered exactly where it failed
pub reads_or_fails : {A : Type 0} (why : Fault) (answer : Fault) (before after : ℕ) → CountsRead why before after
    → FollowsRead why answer
    → FailedIf {A = A} fault.Read (Err answer) before after
reads_or_fails fault.Read answer before after counts is =
    record { risen = λ _. counts; same = λ other. absurd (other (ap Err is)) }
reads_or_fails (fault.BadLine line column) answer before after counts apart = reads_other answer before after counts apart
reads_or_fails (fault.Oversize line announced) answer before after counts apart =
    reads_other answer before after counts apart
reads_or_fails fault.LogLimit answer before after counts apart = reads_other answer before after counts apart
reads_or_fails fault.OutputLimit answer before after counts apart = reads_other answer before after counts apart
reads_or_fails fault.Write answer before after counts apart = reads_other answer before after counts apart
reads_or_fails fault.Memory answer before after counts apart = reads_other answer before after counts apart
