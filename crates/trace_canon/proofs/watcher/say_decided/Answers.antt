-- The sink was put each item that the message decides.
use Rattle.std.proofs.Common.{[], ap, sym, subst, ◌∙◌}
use Rattle.std.proofs.lemmas.Result.{on_ok_weaker, on_err_weaker}
use Rattle.trace_text.specs.ItemLines.{list_text_from}
use Rattle.trace_canon.proofs.WatchScripts.{said_items}
use Rattle.trace_canon.proofs.watcher.say_decided.Goals as goal

pub returns-clause-says : goal.returns-clause-says
returns-clause-says g c = on_ok_weaker c.take.result (λ puts M decides judged.
    let put = puts M decides judged in
    let all = said_items g.S.TextSink.says g.met.S.TextSink.nothing g.met.S.TextSink.onward put.0 _ c.take.new.sink put.2 in
    let out_is = c.out-1.given.1 (sym all.same_out) in
    let number_is = c.number-1.given.1 (sym all.same_number) in (
      put.0,
      put.1,
      (λ few. (
        number_is ∙ (all.lines few).0,
        subst
            (λ o. g.S.TextSink.says c.args.out.now (list_text_from c.args.rules.now c.args.style c.args.number.now put.0) o) (sym out_is)
            (all.lines few).1,
      )),
    )) c.take.ensures.puts

pub returns-clause-err : goal.returns-clause-err
returns-clause-err g c = on_err_weaker c.take.result (λ same.
    let out_is = c.out-1.given.1 (ap (λ s. s.out.ghost_name) (sym same)) in
    subst (λ o. g.S.TextSink.says c.args.out.now [] o) (sym (out_is ∙ ap (λ s. s.out.now) same))
    (g.met.S.TextSink.nothing c.args.out.now)) c.take.ensures.unput
