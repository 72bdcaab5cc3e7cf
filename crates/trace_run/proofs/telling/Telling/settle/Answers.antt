-- What is on the sheet is settled: so all that was said is written, or writing failed.
use Rattle.std.proofs.Common.{[], arith, false, subst}
use Rattle.std.specs.Prelude.{not}
use Rattle.trace_run.specs.proving.Carrying.{HasSaid, blank_sheet}
use Rattle.trace_run.specs.proving.Telling.{said_since, HasToldAndWritten}
use Rattle.trace_run.proofs.Carryings.{carries_at_start, wrote_all}
use Rattle.trace_run.proofs.ToldFrames.{settled_as, same_sheet}
use Rattle.trace_run.proofs.telling.Telling.settle.Goals as goal

pub returns : goal.returns
returns g c =
    let M = g.M.Machine in
    let W = g.W.Target in
    let self = c.args.self.now in
    record {
      well = λ is start T tells.
          let now : HasToldAndWritten M W start T self false c.settle.new.target =
          subst (λ b. HasToldAndWritten M W start T self (not b) c.settle.new.target) is
          (settled_as M W start T self _ _ c.settle.result tells c.settle.ensures.settled) in (
            now,
            same_sheet M W start T self c.settle.new.self c.settle.new.target now (c.settle.ensures.well is) (c.settle.ensures.blank is),
          );
      wrong = λ is start T tells.
          subst (λ b. HasToldAndWritten M W start T self (not b) c.settle.new.target) is
          (settled_as M W start T self _ _ c.settle.result tells c.settle.ensures.settled);
      sure = λ is start T tells.
          let text = said_since M start.rules start.machine T in
          let written : HasSaid W start.target text (blank_sheet false) c.settle.new.target =
          subst (λ b. HasSaid W start.target text (blank_sheet (not b)) c.settle.new.target) is
          (c.settle.ensures.settled start.target text tells.carried) in
          record {
            within = tells.within;
            mid = c.settle.new.target;
            said = [];
            wrote = wrote_all W start.target c.settle.new.target text written;
            carried =
                carries_at_start W c.settle.new.target c.settle.new.self (omega (arith, written.failures))
                (c.settle.ensures.well is) (c.settle.ensures.blank is);
          };
      kept = λ start earlier sure.
          record {
            within = sure.within;
            mid = sure.mid;
            said = sure.said;
            wrote = sure.wrote;
            carried = c.settle.ensures.no_more sure.mid sure.said sure.carried;
          };
    }
