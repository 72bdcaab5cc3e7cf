-- The session was read, or why not; the text of its items was written, or a front of it.
use Rattle.isotp_receive.specs.declared.TheConstants.{MESSAGE_LIMIT}
use Rattle.trace_log.proofs.Promises.{handed_on}
use Rattle.trace_canon.specs.ItemText.{text_over_items}
use Rattle.trace_canon.specs.Sessions.{GivesSession}
use Rattle.trace_canon.proofs.TextsAtEnd.{front_at_end, none_at_end, text_at_end}
use Rattle.trace_canon.proofs.item_text.write_items.Goals as goal

pub returns : goal.returns
returns g c =
    let settings = c.args.config.now in
    let of = text_over_items (g.T.ItemText.text c.args.text.now) MESSAGE_LIMIT settings in
    let session = c.in_ok-session.session in
    record {
      ran =
          text_at_end g.R.Source g.W.Target of (GivesSession MESSAGE_LIMIT settings) _ _ _ session session.meaning
          session.summary _ _ (λ log is. is.accepted) c.in_ok-session.ensures.ran c.in_ok-print.ensures;
    }

pub returns-in_err-session : goal.returns-in_err-session
returns-in_err-session g c =
    let settings = c.args.config.now in
    let of = text_over_items (g.T.ItemText.text c.args.text.now) MESSAGE_LIMIT settings in
    rw (handed_on c.from_residual.result _ c.from_residual.ensures.1) (record {
      ran =
          none_at_end g.R.Source g.W.Target of (GivesSession MESSAGE_LIMIT settings) _ _ _ _ (λ log is. is)
          c.in_err-session.ensures.ran;
    })

pub returns-in_err-print : goal.returns-in_err-print
returns-in_err-print g c =
    let settings = c.args.config.now in
    let of = text_over_items (g.T.ItemText.text c.args.text.now) MESSAGE_LIMIT settings in
    let session = c.in_ok-session.session in
    rw (handed_on c.from_residual-in_err-print.result _ c.from_residual-in_err-print.ensures.1, c.in_err-print.ensures.only)
    (record {
      ran =
          front_at_end g.R.Source g.W.Target of (GivesSession MESSAGE_LIMIT settings) _ _ _ session session.meaning
          session.summary _ _ (λ log is. is.accepted) (λ log. tt) c.in_ok-session.ensures.ran c.in_err-print.ensures;
    })
