-- A run over a script that says nothing, nor of a refusal, writes nothing.
use Rattle.std.proofs.Common.{◌≡◌, ◌≢◌, ℕ, List, [], ◌∷◌, ◌++◌, length, arith, ap, refl, ◌∙◌, Result, Ok, Err, inl, inr}
use Rattle.std.specs.Result.{IfErr}
use Rattle.isotp_receive.specs.Trace.{Entry}
use Rattle.trace_log.specs.declared.fault.Fault.{Fault}
use Rattle.trace_log.specs.declared.summary.Summary.{Summary}
use Rattle.trace_log.specs.declared.fault.Fault.TheVariants.{BadLine, Oversize, LogLimit, OutputLimit, Read, Write, Memory}
use Rattle.trace_log.specs.Settings.{Settings}
use Rattle.trace_log.specs.Summing.{summary_of}
use Rattle.trace_run.specs.Script.{Script, Answering, Needing, command, says_no_refusal, said_after}
use Rattle.trace_run.specs.AnswersAndWrites.{AnswersAndWrites}
use Rattle.trace_log.specs.Trace.{trace}

-- A script that says nothing.
pub record SaysNothing (script : Script) : Type 0 where
  pub of_frame : (T : List Entry) (e : Entry) → script.of_frame T e ≡ []
  pub at_the_end : (T : List Entry) (summary : Summary) → script.at_the_end T summary ≡ []

-- where nothing is said of any frame, nothing is of many
said_of_silent_frames : (of_frame : List Entry → Entry → List ℕ) → ((T : List Entry) (e : Entry) → of_frame T e ≡ [])
    → (past xs : List Entry) → said_after of_frame past xs ≡ []
said_of_silent_frames of_frame none past [] = refl
said_of_silent_frames of_frame none past (e ∷ rest) =
    ap (λ (text : List ℕ). text ++ said_after of_frame (past ++ e ∷ []) rest) (none past e)
    ∙ said_of_silent_frames of_frame none (past ++ e ∷ []) rest

module _ {A : Type 0} (script : Script) (none : SaysNothing script) (answers : Answering A) (needs : Needing)
    (limit : ℕ) (settings : Settings) (log : List ℕ) (given : ℕ) (old new : List ℕ) where
  -- so writing does not fail
  pub never_write : (result : Result A Fault)
      → AnswersAndWrites (command script says_no_refusal answers needs) limit settings log given result old new
      → IfErr result (λ why. why ≢ Write)
  never_write (Ok value) answered = tt
  never_write (Err (BadLine line column)) answered = λ is. absurd (cc is)
  never_write (Err (Oversize line announced)) answered = λ is. absurd (cc is)
  never_write (Err LogLimit) answered = λ is. absurd (cc is)
  never_write (Err OutputLimit) answered = λ is. absurd (cc is)
  never_write (Err Read) answered = λ is. absurd (cc is)
  never_write (Err Memory) answered = λ is. absurd (cc is)
  never_write (Err Write) (inl (front, inl told)) =
      absurd (omega (arith, told.some, ap length (said_of_silent_frames script.of_frame none.of_frame [] (trace settings told.meanings))))
  never_write (Err Write) (inl (front, inr ends)) =
      let T = trace settings ends.meanings in
      let last = none.at_the_end T (summary_of limit settings log ends.meanings) in
      absurd (omega (
        arith,
        ends.some,
        ap (λ (t : List ℕ). length (t ++ script.at_the_end T (summary_of limit settings log ends.meanings)))
            (said_of_silent_frames script.of_frame none.of_frame [] T),
        ap length last,
      ))
  never_write (Err Write) (inr refuses) =
      absurd (omega (arith, refuses.some))
