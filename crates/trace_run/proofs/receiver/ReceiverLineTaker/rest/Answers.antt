-- What was said of the lines is settled, or that failed.
use Rattle.trace_log.specs.Trace.{trace}
use Rattle.trace_run.specs.proving.Telling.{start_with}
use Rattle.trace_run.proofs.receiver.ReceiverLineTaker.rest.Goals as goal

pub returns-clause-well : goal.returns-clause-well
returns-clause-well g c = λ is start meanings took. (
  λ settings machine_start begun.
      let so_far = took settings machine_start begun in
      let settled = c.settle.ensures.well is (start_with settings.rules machine_start start.1) (trace settings meanings) so_far.1 in
      (record { config = so_far.0.config; lines = so_far.0.lines }, settled.0),
  λ settings machine_start begun.
      let so_far = took settings machine_start begun in
      let settled = c.settle.ensures.well is (start_with settings.rules machine_start start.1) (trace settings meanings) so_far.1 in
      (record { config = so_far.0.config; lines = so_far.0.lines }, settled.1),
)

pub returns-clause-wrong : goal.returns-clause-wrong
returns-clause-wrong g c = λ is start meanings took settings machine_start begun.
    let so_far = took settings machine_start begun in (
      record { config = so_far.0.config; lines = so_far.0.lines },
      c.settle.ensures.wrong is (start_with settings.rules machine_start start.1) (trace settings meanings) so_far.1,
    )

pub returns-clause-sure : goal.returns-clause-sure
returns-clause-sure g c = λ is start meanings took settings machine_start begun.
    c.settle.ensures.sure is (start_with settings.rules machine_start start.1) (trace settings meanings) (took settings machine_start begun).1

pub returns-clause-kept : goal.returns-clause-kept
returns-clause-kept g c = λ start earlier sure settings machine_start begun.
    c.settle.ensures.kept (start_with settings.rules machine_start start.1) (trace settings earlier) (sure settings machine_start begun)
