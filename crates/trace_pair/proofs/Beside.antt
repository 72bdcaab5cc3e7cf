-- What is known of two logs that are kept is known of them side by side.
use Rattle.std.proofs.Common.{◌≡◌, ◌≢◌, ℕ, List, Result, Ok, Err, ap, sym, subst, ◌∙◌}
use Rattle.std.specs.Prelude.{IfErr}
use Rattle.trace_canon.specs.Compared.{fault_in}
use Rattle.trace_io.specs.declared.device.Source.{Ghosts as SourceGhosts}
use Rattle.trace_log.specs.Devices.{ReadFrom}
use Rattle.trace_log.specs.Settings.{Settings}
use Rattle.trace_log.specs.declared.fault.CompareFault.{CompareFault}
use Rattle.trace_log.specs.declared.fault.CompareFault.TheVariants.{Left, Right}
use Rattle.trace_log.specs.declared.fault.Fault.{Fault}
use Rattle.trace_log.specs.declared.fault.Fault.TheVariants.{Memory, Read, Write}
use Rattle.trace_report.specs.Kept.{KeepsTwo, KeptSessionsValue}
use Rattle.trace_pair.specs.proving.Beside.{IsSetBeside}

pub never_both : (held : KeptSessionsValue) (why : CompareFault) → ◌≡◌ {A = Result KeptSessionsValue CompareFault} (Ok held) (Err why) → ⊥
never_both held why is = cc

fault_of : (one other : CompareFault) → ◌≡◌ {A = Result KeptSessionsValue CompareFault} (Err one) (Err other) → one ≡ other
fault_of one other is = cc

sides_apart : (one other : Fault) → ◌≡◌ {A = CompareFault} (Right one) (Left other) → ⊥
sides_apart one other is = cc

pub memory_is_no_read : ◌≡◌ {A = CompareFault} (Right Memory) (Right Read) → ⊥
memory_is_no_read is = cc

pub right_is_no_left : (fault : Fault) → ◌≡◌ {A = CompareFault} (Right Memory) (Left fault) → ⊥
right_is_no_left fault is = sides_apart Memory fault is

memory_is_no_write : ◌≡◌ {A = Fault} Memory Write → ⊥
memory_is_no_write is = cc

-- what is answered of them
pub beside_holds : (limit : ℕ) (settings : Settings) (one other : List ℕ) (kept result : Result KeptSessionsValue CompareFault) → IsSetBeside kept result
    → KeepsTwo limit settings one other kept → KeepsTwo limit settings one other result
beside_holds limit settings one other (Ok held) (Ok beside) is holds = subst (λ (t : KeptSessionsValue). KeepsTwo limit settings one other (Ok t)) (sym is) holds
beside_holds limit settings one other (Ok held) (Err fault) is holds =
    subst (λ (f : CompareFault). KeepsTwo limit settings one other (Err f)) (sym is.0) ((held.left, holds.0), tt)
beside_holds limit settings one other (Err why) (Ok beside) is holds = absurd is
beside_holds limit settings one other (Err why) (Err fault) is holds = subst (λ (f : CompareFault). KeepsTwo limit settings one other (Err f)) (sym is) holds

-- a fault of the first log is one of the logs that were kept
pub left_before : (kept result : Result KeptSessionsValue CompareFault) (fault : Fault) → IsSetBeside kept result → result ≡ Err (Left fault) → kept ≡ Err (Left fault)
left_before (Ok held) (Ok beside) fault is told = absurd (never_both beside (Left fault) told)
left_before (Ok held) (Err why) fault is told = absurd (right_is_no_left fault (sym is.0 ∙ fault_of why (Left fault) told))
left_before (Err before) (Ok beside) fault is told = absurd is
left_before (Err before) (Err why) fault is told = ap Err (sym is) ∙ told

-- no write failed
pub none_written : (kept result : Result KeptSessionsValue CompareFault) → IsSetBeside kept result → IfErr kept (λ fault. fault_in fault ≢ Write)
    → IfErr result (λ fault. fault_in fault ≢ Write)
none_written (Ok held) (Ok beside) is well = tt
none_written (Ok held) (Err fault) is well = λ written. memory_is_no_write (sym (ap fault_in is.0) ∙ written)
none_written (Err why) (Ok beside) is well = absurd is
none_written (Err why) (Err fault) is well = λ written. well (ap fault_in (sym is) ∙ written)

-- what was read of a log, where a read that failed is not called as memory is that is refused here
pub read_beside : {R : Type 0} (source : SourceGhosts R) (why : CompareFault) (max_bytes : ℕ) (kept result : Result KeptSessionsValue CompareFault) (before after : R) → Right Memory ≢ why
    → IsSetBeside kept result → ReadFrom source why max_bytes kept before after → ReadFrom source why max_bytes result before after
read_beside source why max_bytes (Ok held) (Ok beside) before after other is read = record {
  over = read.over;
  gave = read.gave;
  ended = read.ended;
  within = read.within;
  calls = read.calls;
  progress = read.progress;
  failed = record { risen = λ told. absurd (never_both beside why told); same = λ told. read.failed.same (never_both held why) };
}
read_beside source why max_bytes (Ok held) (Err fault) before after other is read = record {
  over = tt;
  gave = read.gave;
  ended = read.ended;
  within = read.within;
  calls = read.calls;
  progress = read.progress;
  failed = record { risen = λ told. absurd (other (sym is.0 ∙ fault_of fault why told)); same = λ told. read.failed.same (never_both held why) };
}
read_beside source why max_bytes (Err fault) (Ok beside) before after other is read = absurd is
read_beside source why max_bytes (Err fault) (Err result) before after other is read =
    subst (λ (f : CompareFault). ReadFrom {A = KeptSessionsValue} source why max_bytes (Err f) before after) (sym is) read
