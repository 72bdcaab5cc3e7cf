-- What a run answers at the end of a log.
use Rattle.std.proofs.Common.{◌≡◌, ◌≢◌, ℕ, ◌≤◌, Bool, true, false, List, ◌++◌, length, arith, refl, subst, Option, Result, Ok, Err, inl, inr}
use Rattle.std.specs.Prelude.{not}
use Rattle.std.proofs.Math.Nat.{le-min}
use Rattle.can_log.specs.Log.{LogMeans}
use Rattle.can_log.specs.declared.frame.Stamped.{Stamped}
use Rattle.isotp_receive.specs.declared.TheConstants.{MESSAGE_LIMIT}
use Rattle.trace_io.specs.declared.device.Target.{Ghosts as TargetGhosts}
use Rattle.trace_log.specs.Devices.{WroteTo}
use Rattle.trace_log.specs.Refusal.{EachPasses}
use Rattle.trace_log.specs.Settings.{Settings}
use Rattle.trace_log.specs.Summing.{summary_of}
use Rattle.trace_log.specs.Trace.{trace}
use Rattle.trace_log.specs.declared.fault.Fault.{Fault}
use Rattle.trace_log.specs.declared.fault.Fault.TheVariants as fault
use Rattle.trace_log.specs.declared.summary.Summary.{Summary}
use Rattle.trace_log.proofs.Promises.{writes_front_of_all}
use Rattle.trace_run.specs.Stopping.{passing}
use Rattle.trace_run.specs.AnswersAndWrites.{AnswersAndWrites, EndsWith}
use Rattle.trace_run.specs.Ran.{command_of}
use Rattle.trace_run.specs.Script.{GlimpseValue, Script}
use Rattle.trace_run.specs.declared.machine.Machine.{Ghosts as MachineGhosts}
use Rattle.trace_run.specs.declared.machine.NoAnswer.{NoAnswer}
use Rattle.trace_run.specs.declared.machine.NoAnswer.TheVariants as no_answer
use Rattle.trace_run.specs.declared.sheet.Sheet.{Sheet}
use Rattle.trace_run.specs.declared.telling.Telling.{Telling}
use Rattle.trace_run.specs.proving.Carrying.{HasSaid, Says, Settles, blank_sheet}
use Rattle.trace_run.specs.proving.Ending.{EndsAnswering, EndsSaying, whole_since}
use Rattle.trace_run.specs.proving.Telling.{AreWithin, HasTold, Start, said_since}
use Rattle.trace_run.proofs.Carryings.{wrote_all, wrote_front}
use Rattle.trace_run.proofs.DeviceFaults.{wrote_to}
use Rattle.trace_run.proofs.StoppedLines.{all_pass, read_to_end}

module _ {A M W : Type 0} (machine : MachineGhosts M A) (target : TargetGhosts W) (start : Start M W) (settings : Settings)
    (log : List ℕ) (meanings : List (Option Stamped)) where
  -- what it answers at the end of the log
  pub answers_at_the_end : (glimpse : GlimpseValue) (given : ℕ) (result : Result A Fault) (new : W)
      → length log ≤ settings.max_bytes
      → given ≡ length log → LogMeans log meanings → AreWithin machine start.rules start.machine (trace settings meanings)
      → EndsSaying machine target start settings log meanings result new
      → AnswersAndWrites (command_of machine glimpse start.rules start.machine) MESSAGE_LIMIT settings log given result
      (target.taken start.target) (target.taken new)
  answers_at_the_end glimpse given result new short all means within = by result
    where
      script : Script
      script = machine.script start.rules start.machine

      each : EachPasses (passing script.strict MESSAGE_LIMIT settings) meanings
      each = all_pass script.strict settings meanings within

      with_answer : (reply : Result A NoAnswer) → EndsAnswering machine target start settings log meanings reply new
          → EndsWith (command_of machine glimpse start.rules start.machine) MESSAGE_LIMIT settings log given reply
          (target.taken start.target) (target.taken new)
      with_answer reply ends = (
        omega (arith, all),
        meanings,
        read_to_end settings log script.strict meanings short means each,
        ends.0,
        wrote_all target start.target new (whole_since machine target start settings log meanings) ends.1,
      )

      by : (result : Result A Fault) → EndsSaying machine target start settings log meanings result new
          → AnswersAndWrites (command_of machine glimpse start.rules start.machine) MESSAGE_LIMIT settings log given result
          (target.taken start.target) (target.taken new)
      by (Ok value) ends = with_answer (Ok value) ends
      by (Err fault.OutputLimit) ends = with_answer (Err no_answer.OutputLimit) ends
      by (Err fault.Write) ends =
          let whole = whole_since machine target start settings log in
          let front = wrote_front target start.target new (whole meanings) true ends in
          inl (
            writes_front_of_all (passing script.strict MESSAGE_LIMIT settings) whole settings log given meanings
                (target.taken start.target) (target.taken new) fault.Write front.front means (le-min (omega arith) short) refl each
                front.wrote (front.rest, front.parts),
            inr (record {
              meanings = meanings;
              read = read_to_end settings log script.strict meanings short means each;
              some = ends.failed_some refl;
              front = front;
            }),
          )
      by (Err fault.Read) ends = absurd ends
      by (Err fault.Memory) ends = absurd ends
      by (Err fault.LogLimit) ends = absurd ends
      by (Err (fault.BadLine line column)) ends = absurd ends
      by (Err (fault.Oversize line announced)) ends = absurd ends

  -- what was done with the target
  pub wrote_at_the_end : (result : Result A Fault) (new : W)
      → EndsSaying machine target start settings log meanings result new
      → WroteTo target fault.Write result start.target new
  wrote_at_the_end (Ok value) new ends =
      wrote_to target start.target new (Ok value) _ false ends.1
      (record { risen = λ is. absurd (cc is); same = λ _. ends.1.failures })
  wrote_at_the_end (Err fault.OutputLimit) new ends =
      wrote_to target start.target new (Err fault.OutputLimit) _ false ends.1
      (record { risen = λ is. absurd (cc is); same = λ _. ends.1.failures })
  wrote_at_the_end (Err fault.Write) new ends =
      wrote_to target start.target new (Err fault.Write) _ true ends
      (record { risen = λ _. ends.failures; same = λ other. absurd (other refl) })
  wrote_at_the_end (Err fault.Read) new ends = absurd ends
  wrote_at_the_end (Err fault.Memory) new ends = absurd ends
  wrote_at_the_end (Err fault.LogLimit) new ends = absurd ends
  wrote_at_the_end (Err (fault.BadLine line column)) new ends = absurd ends
  wrote_at_the_end (Err (fault.Oversize line announced)) new ends = absurd ends

  -- no read failed, and memory was not refused
  pub neither_read_nor_memory : (result : Result A Fault) (new : W)
      → EndsSaying machine target start settings log meanings result new
      → (result ≢ Err fault.Read) × (result ≢ Err fault.Memory)
  neither_read_nor_memory (Ok value) new ends = (λ is. absurd (cc is), λ is. absurd (cc is))
  neither_read_nor_memory (Err fault.OutputLimit) new ends = (λ is. absurd (cc is), λ is. absurd (cc is))
  neither_read_nor_memory (Err fault.Write) new ends = (λ is. absurd (cc is), λ is. absurd (cc is))
  neither_read_nor_memory (Err fault.Read) new ends = absurd ends
  neither_read_nor_memory (Err fault.Memory) new ends = absurd ends
  neither_read_nor_memory (Err fault.LogLimit) new ends = absurd ends
  neither_read_nor_memory (Err (fault.BadLine line column)) new ends = absurd ends
  neither_read_nor_memory (Err (fault.Oversize line announced)) new ends = absurd ends

  -- all that is said at the end is carried to the sheet and settled, or that failed
  pub carried_at_the_end : (telling : Telling M) (sheet_then : Sheet) (old mid new : W) (settled : Bool) (summary : Summary)
      → HasTold machine target start (trace settings meanings) telling old
      → summary ≡ summary_of MESSAGE_LIMIT settings log meanings
      → Says target telling.sheet old ((machine.script start.rules start.machine).at_the_end (trace settings meanings) summary) sheet_then mid
      → Settles target sheet_then mid settled new
      → HasSaid target start.target (whole_since machine target start settings log meanings) (blank_sheet (not settled)) new
  carried_at_the_end telling sheet_then old mid new settled summary so_far is speaks settles =
      let T = trace settings meanings in
      let said = said_since machine start.rules start.machine T in
      let last = (machine.script start.rules start.machine).at_the_end T in
      subst (λ s. HasSaid target start.target (said ++ last s) (blank_sheet (not settled)) new) is
      (settles start.target (said ++ last summary) (speaks start.target said so_far.carried))

-- there is one reason for no answer at the end
pub only_output_limit : (why : NoAnswer) → why ≡ no_answer.OutputLimit
only_output_limit no_answer.OutputLimit = refl
