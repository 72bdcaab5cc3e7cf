use Rattle.std.proofs.Common.{◌≡◌, ◌*◌, ◌+◌, ℕ, true, length-take, take, subst, arith}
use Rattle.std.specs.List.{AllByRecursion}
use Rattle.std.specs.Char.{is_ascii_hexdigit}
use Rattle.can_log.proofs.LaneRuns.{hex_more}
use Rattle.can_log.proofs.lanes.hex_run.Goals as goal

pub loop-i-preserved : goal.loop-i-preserved
loop-i-preserved c =
    let bytes = c.args.bytes.now in
    let next : 16 * c.loop-i.i + c.hex_front-more.result ≡ 16 * (c.loop-i.i + 1) = omega (arith, c.hex_front-more.ensures.0) in
    subst (λ (n : ℕ). AllByRecursion (λ b. is_ascii_hexdigit b ≡ true) (take n bytes)) next (hex_more (16 * c.loop-i.i) c.hex_front-more.result bytes c.loop-i.invariant c.hex_front-more.ensures)

pub returns-then-more-lt-LANES-clause-run : goal.returns-then-more-lt-LANES-clause-run
returns-then-more-lt-LANES-clause-run c = record {
  each = hex_more (16 * c.loop-i.i) c.hex_front-more.result c.args.bytes.now c.loop-i.invariant c.hex_front-more.ensures;
  enough = omega arith;
  few = omega (arith, c.hex_front-more.ensures.0, length-take (16 * c.loop-i.i + c.hex_front-more.result) c.args.bytes.now);
}
