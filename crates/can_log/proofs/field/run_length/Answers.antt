use Rattle.std.proofs.Common.{◌∙◌, sym, arith}
use Rattle.can_log.specs.declared.field.Class.TheVariants.{Hex}
use Rattle.can_log.proofs.Runs.{goes_on, stops, ends, is_full, whole_run}
use Rattle.can_log.proofs.field.run_length.Goals.{in-Hex, in_default}
use Rattle.can_log.proofs.field.run_length.Goals as goal

pub loop-n-preserved : goal.loop-n-preserved
loop-n-preserved c = record {
  within = omega arith;
  below = omega arith;
  so_far = goes_on c.args.class c.args.most c.loop-n.n c.args.bytes.now _ c.loop-n-test.true c.if-n-bytes.true (sym c.contains.ensures ∙ c.if-contains.true) c.loop-n.invariant.so_far;
}

pub returns-else-contains-clause-value : goal.returns-else-contains-clause-value
returns-else-contains-clause-value c = stops c.args.class c.args.most c.loop-n.n c.args.bytes.now _ c.if-n-bytes.true (sym c.contains.ensures ∙ c.if-contains.false) c.loop-n.invariant.so_far

pub returns-else-n-bytes-clause-value : goal.returns-else-n-bytes-clause-value
returns-else-n-bytes-clause-value c = ends c.args.class c.args.most c.loop-n.n c.args.bytes.now _ (omega arith) c.loop-n.invariant.so_far

pub returns-after-loop-n-clause-value : goal.returns-after-loop-n-clause-value
returns-after-loop-n-clause-value c = is_full c.args.class c.args.most c.loop-n.n c.args.bytes.now _ (omega arith) c.loop-n.invariant.so_far

pub returns-then-are_hex_digits-clause-value : goal.returns-then-are_hex_digits-clause-value
returns-then-are_hex_digits-clause-value c = elim c.match-matches.branch [
  | in-Hex w ↦ rw w.in-Hex.is (sym (whole_run Hex c.args.most c.args.bytes.now (sym c.are_hex_digits.ensures ∙ c.if-are_hex_digits.true) c.if-bytes-most.true))
  | in_default w ↦ absurd (cc (w.matches-is, c.if-matches.true))
]
