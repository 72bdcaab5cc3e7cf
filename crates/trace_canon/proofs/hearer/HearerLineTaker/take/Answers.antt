-- A line with a frame has one more heard, or needs memory for it; a blank one has none.
use Rattle.std.proofs.Common.{refl}
use Rattle.trace_log.proofs.Promises.{handed_on}
use Rattle.trace_canon.proofs.Hearings.{heard_blank, heard_frame, heard_first}
use Rattle.trace_canon.proofs.hearer.HearerLineTaker.take.Goals as goal

pub returns-in_ok-take-in-Some-clause-ok : goal.returns-in_ok-take-in-Some-clause-ok
returns-in_ok-take-in-Some-clause-ok c = λ start meanings number few took begun.
    heard_frame meanings c.args.what.now c.in-Some.stamped c.args.self.now.finder c.take.new.self c.args.self.now.lines
    c.args.line c.in-Some.is number few c.in_ok-take-in-Some.ensures.ok (took begun)

pub returns-in_err-take-in-Some-clause-err : goal.returns-in_err-take-in-Some-clause-err
returns-in_err-take-in-Some-clause-err c = rw (handed_on c.from_residual.result _ c.from_residual.ensures.1)
    (λ start meanings number few took begun. (
      refl,
      heard_first meanings c.args.what.now c.in-Some.stamped c.args.self.now.finder c.args.self.now.lines c.in-Some.is
          c.in_err-take-in-Some.ensures.needs (took begun),
    ))

pub returns-in-None-clause-ok : goal.returns-in-None-clause-ok
returns-in-None-clause-ok c = λ start meanings number few took begun.
    heard_blank meanings c.args.what.now c.args.self.now.finder c.args.self.now.lines c.args.line c.in-None.is number (took begun)
