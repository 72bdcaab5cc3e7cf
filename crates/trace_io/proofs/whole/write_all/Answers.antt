use Rattle.std.proofs.Common.{rules, take, ◌∙◌}
use Rattle.trace_io.proofs.Takings.{took_more, written_more}
use Rattle.trace_io.proofs.whole.write_all.Goals as goal

pub writing-preserved : goal.writing-preserved
writing-preserved g c =
    let inv = c.writing.invariant in
    let n = c.in_ok-n.n in
    let wrote = c.in_ok-n.ensures in
    record {
      took = took_more inv.took (record { bytes = take n c.writing.rest.now; grown = wrote.taken; held = wrote.told });
      taken = written_more c.args.text.now c.writing.rest.now n inv.taken wrote.taken;
      failures = wrote.failures ∙ inv.failures;
      no_empty_write = search rules;
      flushes = wrote.flushes ∙ inv.flushes;
    }
