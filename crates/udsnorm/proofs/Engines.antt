-- What is known of a run of any engine, by what its call promises.
use Rattle.std.proofs.Common.{Result}
use Rattle.isotp_receive.specs.declared.TheConstants.{MESSAGE_LIMIT}
use Rattle.trace_io.specs.declared.device.Source.{Ghosts as SourceGhosts}
use Rattle.trace_io.specs.declared.device.Target.{Ghosts as TargetGhosts}
use Rattle.trace_log.specs.Settings.{Settings}
use Rattle.trace_log.specs.declared.fault.Fault.{Fault}
use Rattle.trace_log.specs.declared.summary.Summary.{Summary}
use Rattle.udsnorm.specs.Engines.{Engine, RanAny, RanBy, normalises, writes, finds, explains, runs, runs_in_style}

pub ran_any : {R W : Type 0} (source : SourceGhosts R) (target : TargetGhosts W) (engine : Engine) (settings : Settings) (before : R) (old : W) (result : Result Summary Fault) (after : R) (new : W)
    → RanBy source target engine settings before old result after new → RanAny source target engine MESSAGE_LIMIT settings before old result after new
ran_any source target normalises settings before old result after new ran = ran
ran_any source target (writes text) settings before old result after new ran =
    record {
      answer = ran.answer;
      eager = λ log agrees. tt;
      memory = ran.way.memory;
      near = ran.way.near;
      read = ran.way.read;
      wrote = ran.wrote;
    }
ran_any source target (finds style) settings before old result after new ran =
    record {
      answer = ran.answer;
      eager = λ log agrees. tt;
      memory = ran.way.memory;
      near = ran.way.near;
      read = ran.way.read;
      wrote = ran.wrote;
    }
ran_any source target (explains notation) settings before old result after new ran =
    record {
      answer = ran.run.answer;
      eager = ran.run.eager;
      memory = ran.memory (λ T e none. none);
      near = ran.near;
      read = ran.run.read;
      wrote = ran.run.wrote;
    }
ran_any source target (runs script needs) settings before old result after new ran =
    record { answer = ran.run.answer; eager = ran.run.eager; memory = ran.run.memory; near = ran.near; read = ran.run.read; wrote = ran.run.wrote }
ran_any source target (runs_in_style script refusal) settings before old result after new ran = ran
