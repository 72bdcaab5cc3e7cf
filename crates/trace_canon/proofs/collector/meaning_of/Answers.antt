-- The meaning is that of the session, which was read so.
use Rattle.isotp_receive.specs.declared.TheConstants.{MESSAGE_LIMIT}
use Rattle.trace_log.proofs.Promises.{handed_on}
use Rattle.trace_canon.specs.WaysOfReading.{reading_to_collect}
use Rattle.trace_canon.proofs.ReadWays.{way_of_fault, way_of_value}
use Rattle.trace_canon.proofs.SessionScripts.{meaning_given}
use Rattle.trace_canon.proofs.collector.meaning_of.Goals as goal

pub returns : goal.returns
returns g c =
    let settings = c.args.config.now in
    let session = c.in_ok-session.session in
    record {
      ran = record {
        answer = λ log agrees.
            meaning_given settings log session.meaning session.summary (c.in_ok-session.ensures.ran.answer log agrees).accepted;
        way =
            way_of_value g.R.Source (reading_to_collect MESSAGE_LIMIT settings) _ _ session _ c.in_ok-session.ensures.ran.way;
        never_write = tt;
      };
    }

pub returns-in_err-session : goal.returns-in_err-session
returns-in_err-session g c =
    let ran = c.in_err-session.ensures.ran in
    rw (handed_on c.from_residual.result _ c.from_residual.ensures.1) (record {
      ran = record {
        answer = ran.answer;
        way = way_of_fault g.R.Source (reading_to_collect MESSAGE_LIMIT c.args.config.now) _ _ _ ran.way;
        never_write = ran.never_write;
      };
    })
