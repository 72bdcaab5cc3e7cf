-- How a log was read, where a call answers something else than the one by which it was read.
use Rattle.std.proofs.Common.{◌≡◌, Ok, Err, ap}
use Rattle.trace_io.specs.declared.device.Source.{Ghosts as SourceGhosts}
use Rattle.trace_log.specs.declared.fault.Fault.{Fault}
use Rattle.trace_log.specs.declared.fault.Fault.TheVariants.{Read, Write, Memory}
use Rattle.trace_canon.specs.WaysOfReading.{ReadInThisWay, WayOfReading}

module _ {R A B : Type 0} (source : SourceGhosts R) (reading : WayOfReading) (before after : R) where
  -- another value is answered
  pub way_of_value : (one : A) (other : B) → ReadInThisWay source reading before (Ok one) after
      → ReadInThisWay source reading before (Ok other) after
  way_of_value one other way = record {
    near = way.near;
    memory = λ log agrees refused. absurd (cc refused);
    read = record {
      over = way.read.over;
      gave = way.read.gave;
      ended = way.read.ended;
      within = way.read.within;
      calls = way.read.calls;
      progress = way.read.progress;
      failed = record { risen = λ is. absurd (cc is); same = λ apart. way.read.failed.same (λ is. absurd (cc is)) };
    };
  }

  -- the same fault is
  pub way_of_fault : (fault : Fault) → ReadInThisWay {A = A} source reading before (Err fault) after
      → ReadInThisWay {A = B} source reading before (Err fault) after
  way_of_fault fault way = record {
    near = way.near;
    memory = λ log agrees refused. (let same : fault ≡ Memory = cc refused in way.memory log agrees (ap Err same));
    read = record {
      over = tt;
      gave = way.read.gave;
      ended = way.read.ended;
      within = way.read.within;
      calls = way.read.calls;
      progress = way.read.progress;
      failed = record {
        risen = λ is. (let same : fault ≡ Read = cc is in way.read.failed.risen (ap Err same));
        same = λ apart. way.read.failed.same (λ is. (let same : fault ≡ Read = cc is in apart (ap Err same)));
      };
    };
  }

  -- there was a value, and then writing failed
  pub way_before_write : (one : A) → ReadInThisWay source reading before (Ok one) after
      → ReadInThisWay {A = B} source reading before (Err Write) after
  way_before_write one way = record {
    near = way.near;
    memory = λ log agrees refused. absurd (cc refused);
    read = record {
      over = tt;
      gave = way.read.gave;
      ended = way.read.ended;
      within = way.read.within;
      calls = way.read.calls;
      progress = way.read.progress;
      failed = record { risen = λ is. absurd (cc is); same = λ apart. way.read.failed.same (λ is. absurd (cc is)) };
    };
  }
