-- Answers of no text: their status says so, and they call no log clean.
use Rattle.std.proofs.Common.{◌≡◌, ◌⊎◌, ℕ, List, Bool, true, arith, refl, sym, subst, inl, inr}
use Rattle.std.specs.Prelude.{◌==◌, ◌&&◌, not}
use Rattle.std.proofs.lemmas.Bool.{and_parts, eqb-false, eqb-true, not-true}
use Rattle.trace_log.specs.declared.fault.CompareFault.{CompareFault}
use Rattle.trace_log.specs.declared.fault.CompareFault.TheVariants.{Left, Right}
use Rattle.trace_log.specs.declared.fault.ConfigFault.{ConfigFault}
use Rattle.trace_log.specs.declared.fault.ConfigFault.TheVariants.{IdRange, SameId, SameFunctional, LimitRange}
use Rattle.trace_log.specs.declared.fault.Fault.{Fault}
use Rattle.trace_log.specs.declared.fault.Fault.TheVariants.{BadLine, Oversize, LogLimit, OutputLimit, Read, Write, Memory}
use Rattle.trace_pair.specs.declared.in_memory.NoPairPage.{NoPairPage}
use Rattle.trace_pair.specs.declared.in_memory.NoPairPage.TheVariants.{OfLog, OfMemory}
use Rattle.udsnorm_c.specs.declared.answer.UdsnormAnswer.{UdsnormAnswer}
use Rattle.udsnorm_c.specs.Answered.{IsRefusalPut, fault_answer, no_pair_answer, refusal_of, side_answer}
use Rattle.udsnorm_c.specs.declared.given.NoConfig.{NoConfig}
use Rattle.udsnorm_c.specs.declared.given.NoConfig.TheVariants as no

-- no log is clean, and neither was a text put nor was there too little room for it
abbrev pub has_no_text : UdsnormAnswer → Bool
has_no_text answer = (answer.clean == 0) && (not (answer.status == 0) && not (answer.status == 9))

pub of_refusal : (fault : ConfigFault) → has_no_text (refusal_of fault) ≡ true
of_refusal IdRange = refl
of_refusal SameId = refl
of_refusal SameFunctional = refl
of_refusal LimitRange = refl

-- nor has one where there is no configuration
pub of_no_config : (why : NoConfig) (old new : List ℕ) (answer : UdsnormAnswer) → IsRefusalPut why old new answer → has_no_text answer ≡ true
of_no_config (no.Config fault) old new answer (same, says) = subst (λ (a : UdsnormAnswer). has_no_text a ≡ true) (sym says) (of_refusal fault)
of_no_config no.Memory old new answer (same, says) = subst (λ (a : UdsnormAnswer). has_no_text a ≡ true) (sym says) refl
of_no_config (no.Profile told) old new answer (put, says) = subst (λ (a : UdsnormAnswer). has_no_text a ≡ true) (sym says) refl

pub of_fault : (fault : Fault) → has_no_text (fault_answer fault) ≡ true
of_fault (BadLine line column) = refl
of_fault (Oversize line announced) = refl
of_fault LogLimit = refl
of_fault OutputLimit = refl
of_fault Read = refl
of_fault Write = refl
of_fault Memory = refl

pub of_side : (fault : CompareFault) → has_no_text (side_answer fault) ≡ true
of_side (Left fault) = of_fault fault
of_side (Right fault) = of_fault fault

pub of_no_page : (why : NoPairPage) → has_no_text (no_pair_answer why) ≡ true
of_no_page (OfLog fault) = of_side fault
of_no_page OfMemory = refl

-- an answer that is one of these has none
pub so_has : (answer other : UdsnormAnswer) → answer ≡ other → has_no_text other ≡ true → has_no_text answer ≡ true
so_has answer other is none = subst (λ (a : UdsnormAnswer). has_no_text a ≡ true) (sym is) none

pub never_clean : (answer : UdsnormAnswer) → has_no_text answer ≡ true → answer.clean ≡ 1 → ⊥
never_clean answer none clean =
    let zero = eqb-true answer.clean 0 (and_parts (answer.clean == 0) _ none).0 in
    omega (arith, zero, clean)

pub never_put : (answer : UdsnormAnswer) → has_no_text answer ≡ true → (answer.status ≡ 0) ⊎ (answer.status ≡ 9) → ⊥
never_put answer none put =
    let parts = and_parts (not (answer.status == 0)) (not (answer.status == 9)) (and_parts (answer.clean == 0) _ none).1 in
    elim put [
      | inl done ↦ eqb-false answer.status 0 (not-true (answer.status == 0) parts.0) done
      | inr small ↦ eqb-false answer.status 9 (not-true (answer.status == 9) parts.1) small
    ]
