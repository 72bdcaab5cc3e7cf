-- The event that is built anew in an arm is the one that was given.
use Rattle.std.proofs.Common.{ap, sym, ◌∙◌}
use Rattle.isotp_receive.specs.EventSeen.{seen_event}
use Rattle.trace_run.proofs.receiver.hand_on.Goals as goal

pub returns-in-Message-clause-told : goal.returns-in-Message-clause-told
returns-in-Message-clause-told g c = λ T e seen.
    let same = sym (ap (λ v. seen_event (record { verdict = v; ended = c.args.frame.event.ended })) c.in-Message.is) in
    c.count_and_tell.ensures.told T e (record { few = seen.few; line = seen.line; micros = seen.micros; channel = seen.channel; did = same ∙ seen.did })

pub returns-in-Stored-clause-told : goal.returns-in-Stored-clause-told
returns-in-Stored-clause-told g c = λ T e seen.
    let same = sym (ap (λ v. seen_event (record { verdict = v; ended = c.args.frame.event.ended })) c.in-Stored.is) in
    c.count_and_tell-in-Stored.ensures.told T e (record {
      few = seen.few;
      line = seen.line;
      micros = seen.micros;
      channel = seen.channel;
      did = same ∙ seen.did;
    })
