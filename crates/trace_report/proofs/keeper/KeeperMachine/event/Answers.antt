-- The rows of a frame are kept behind those before it; only for rows is memory needed.
use Rattle.std.proofs.Common.{List, ◌∷◌, ◌++◌, [], arith, ap, sym, ◌∙◌}
use Rattle.std.proofs.lemmas.List.{length-append}
use Rattle.isotp_receive.specs.Channels.{dir_of}
use Rattle.isotp_receive.specs.declared.TheConstants.{MESSAGE_LIMIT}
use Rattle.isotp_receive.specs.Verdict.{messages}
use Rattle.uds_rules.specs.Rule.{RuleValue}
use Rattle.trace_run.specs.Spoken.{spoken_counts}
use Rattle.trace_run.proofs.Promises.{few_messages, spoken_next}
use Rattle.trace_report.proofs.Steps.{rows_next}
use Rattle.trace_report.proofs.keeper.KeeperMachine.event.Goals as goal

pub returns-clause-ok : goal.returns-clause-ok
returns-clause-ok g c = λ rules start T e seen known.
    let M = messages MESSAGE_LIMIT T in
    let own = c.args.self.now.rules.now in
    let counted = c.count_message.ensures M (dir_of c.args.seen.channel) (few_messages T seen.event.few)
    (known.spoken ∙ ap (λ (l : List RuleValue). spoken_counts l M) (sym known.ruled)) in
    let rows = c.take-rows.ensures.rows rules T e seen known.follows in (
      record {
        few = omega (arith, seen.event.few, length-append T (e ∷ []));
        times = c.times_with.ensures T e known.times seen.event.micros;
        follows = c.take-rows.ensures.next rules T e seen known.follows;
        rows = c.in_ok-keep_rows.ensures.kept ∙ (λ i. known.rows i ++ rows i) ∙ sym (rows_next MESSAGE_LIMIT rules T e);
        ruled = known.ruled;
        spoken = spoken_next own rules T e c.args.seen _ seen counted
            ∙ ap (λ (l : List RuleValue). spoken_counts l (messages MESSAGE_LIMIT (T ++ e ∷ []))) known.ruled;
      },
      g.met.S.TextSink.nothing c.args._out.now,
    )
