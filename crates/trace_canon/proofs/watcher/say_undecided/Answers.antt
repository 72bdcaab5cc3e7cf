-- The sink was put each item that is left.
use Rattle.std.proofs.Common.{sym, subst, ◌∙◌}
use Rattle.uds_exchange.specs.Decided.{undecided}
use Rattle.trace_text.specs.ItemLines.{list_text_from}
use Rattle.trace_canon.proofs.WatchScripts.{said_items}
use Rattle.trace_canon.proofs.watcher.say_undecided.Goals as goal

pub returns : goal.returns
returns g c = λ M decides few.
    let all =
    said_items g.S.TextSink.says g.met.S.TextSink.nothing g.met.S.TextSink.onward (undecided M) _ c.finish.new.sink
    (c.finish.ensures M decides) in
    let out_is = c.out-1.given.1 (sym all.same_out) in
    let number_is = c.number-1.given.1 (sym all.same_number) in (
      number_is ∙ (all.lines few).0,
      subst
          (λ o. g.S.TextSink.says c.args.out.now (list_text_from c.args.rules.now c.args.style c.args.number.now (undecided M)) o) (sym out_is)
          (all.lines few).1,
    )
