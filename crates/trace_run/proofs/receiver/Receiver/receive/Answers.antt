-- The frame was handed on as an event, or memory was refused to its reception, and nothing was told.
use Rattle.std.proofs.Common.{refl, inl}
use Rattle.trace_log.specs.proving.Receiving.{entry_at}
use Rattle.trace_log.proofs.Promises.{announces_kept}
use Rattle.trace_run.proofs.receiver.Receiver.receive.Goals as goal

pub returns-in-Ok-clause-told : goal.returns-in-Ok-clause-told
returns-in-Ok-clause-told g c = λ T stands few.
    let e = entry_at c.args.line c.args.stamped.now c.args.channel in
    c.hand_on.ensures.told T e (record { few = few; line = refl; micros = refl; channel = refl; did = c.in-Ok.ensures.verdict T stands })

pub returns-in-Err-clause-told : goal.returns-in-Err-clause-told
returns-in-Err-clause-told g c = λ T stands few.
    let e = entry_at c.args.line c.args.stamped.now c.args.channel in
    let kept = c.in-Err.ensures.refused T stands in
    record {
      ok = tt;
      err = λ start ruled tells. record {
        within = tells.within;
        reason = (λ strict. announces_kept T e kept, inl (inl kept));
        carried = tells.carried;
      };
      kept = λ start earlier ruled tells sure. sure;
    }
