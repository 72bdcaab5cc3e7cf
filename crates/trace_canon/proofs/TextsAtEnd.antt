-- A call that reads a log and then writes a text of it, or leaves its target alone where there is none.
use Rattle.std.proofs.Common.{◌≡◌, ◌≢◌, ℕ, List, Result, Ok, Err, refl, ap}
use Rattle.trace_io.proofs.Promises.{took_no_byte}
use Rattle.trace_io.specs.declared.device.Source.{Ghosts as SourceGhosts}
use Rattle.trace_io.specs.declared.device.Target.{Ghosts as TargetGhosts}
use Rattle.trace_log.specs.declared.fault.Fault.{Fault}
use Rattle.trace_log.specs.declared.fault.Fault.TheVariants.{BadLine, Oversize, LogLimit, OutputLimit, Read, Write, Memory}
use Rattle.trace_log.specs.declared.summary.Summary.{Summary}
use Rattle.trace_run.specs.Printed.{Prints}
use Rattle.trace_canon.specs.ReadOnly.{RanToRead}
use Rattle.trace_canon.specs.WrittenAtEnd.{LeavesAtEnd, RanAtEnd, TextOfLog}
use Rattle.trace_canon.proofs.ReadWays.{way_before_write, way_of_fault, way_of_value}

-- where a log has no text the target is left alone, if writing did not fail
left_alone : {V : Type 0} (of : TextOfLog V) (log : List ℕ) (fault : Fault) (old : List ℕ) → fault ≢ Write
    → LeavesAtEnd of log fault old old
left_alone of log (BadLine line column) old other = refl
left_alone of log (Oversize line announced) old other = refl
left_alone of log LogLimit old other = refl
left_alone of log OutputLimit old other = refl
left_alone of log Read old other = refl
left_alone of log Write old other = absurd (other refl)
left_alone of log Memory old other = refl

-- A call reads a log, for which this is answered, and then writes this text of it.
module _ {V R W A : Type 0} (source : SourceGhosts R) (target : TargetGhosts W) (of : TextOfLog V)
    (Gives : List ℕ → Result A Fault → Type 0) (before after : R) (old : W) where
  -- it was read, and the text was written
  pub text_at_end : {D : Type 0} (one : A) (value : V) (summary : Summary) (done : D) (new : W)
      → ((log : List ℕ) → Gives log (Ok one) → of.gives log value summary)
      → RanToRead source Gives of.reading before (Ok one) after → Prints target (of.text value) old (Ok done) new
      → RanAtEnd source target of before old (Ok summary) after new
  text_at_end one value summary done new gives ran prints = record {
    answer = λ log agrees. (value, gives log (ran.answer log agrees), prints.written);
    unwritten = tt;
    way = way_of_value source of.reading before after one summary ran.way;
    wrote = record {
      took = prints.wrote.took;
      no_empty_write = prints.wrote.no_empty_write;
      flushes = prints.wrote.flushes;
      left_alone = λ apart. prints.wrote.left_alone (λ is. absurd (cc is));
      failed = record { risen = λ is. absurd (cc is); same = λ apart. prints.wrote.failed.same (λ is. absurd (cc is)) };
    };
  }

  -- it was not read, and nothing was written
  pub none_at_end : (fault : Fault) → ((log : List ℕ) → Gives log (Err fault) → of.lacks log fault)
      → RanToRead source Gives of.reading before (Err fault) after
      → RanAtEnd source target of before old (Err fault) after old
  none_at_end fault lacks ran = record {
    answer = λ log agrees. (lacks log (ran.answer log agrees), left_alone of log fault (target.taken old) ran.never_write);
    unwritten = λ apart. refl;
    way = way_of_fault source of.reading before after fault ran.way;
    wrote = record {
      took = took_no_byte (target.taken old) (target.contents old);
      no_empty_write = refl;
      flushes = refl;
      left_alone = λ apart same. refl;
      failed = record {
        risen = λ is. (let same : fault ≡ Write = cc is in absurd (ran.never_write same));
        same = λ apart. refl;
      };
    };
  }

  -- it was read, and a front of the text was written, where writing failed
  pub front_at_end : {D : Type 0} (one : A) (value : V) (summary : Summary) (fault : Fault) (new : W)
      → ((log : List ℕ) → Gives log (Ok one) → of.gives log value summary) → ((log : List ℕ) → of.lacks log Write)
      → RanToRead source Gives of.reading before (Ok one) after
      → Prints {A = D} target (of.text value) old (Err fault) new
      → RanAtEnd source target of before old (Err Write) after new
  front_at_end one value summary fault new gives lacks ran prints = record {
    answer = λ log agrees. (lacks log, (value, summary, gives log (ran.answer log agrees), prints.some, prints.written));
    unwritten = λ apart. absurd (apart refl);
    way = way_before_write source of.reading before after one ran.way;
    wrote = record {
      took = prints.wrote.took;
      no_empty_write = prints.wrote.no_empty_write;
      flushes = prints.wrote.flushes;
      left_alone = λ apart. absurd (apart refl);
      failed = record {
        risen = λ _. prints.wrote.failed.risen (ap Err prints.only);
        same = λ apart. absurd (apart refl);
      };
    };
  }
