-- Each part is said behind those before it.
use Rattle.std.proofs.Common.{◌≡◌, ◌+◌, ◌-◌, ◌/◌, arith}
use Rattle.std.specs.List.{flat_map}
use Rattle.text_parts.proofs.Promises.{none-said}
use Rattle.trace_pair.specs.ItemTables.{fold_part}
use Rattle.trace_pair.specs.RowStretches.{parts, parts_of}
use Rattle.trace_pair.proofs.FoldParts.{fold_behind, turn-end, turn-part}
use Rattle.trace_pair.proofs.folds.say_fold_parts.Goals as goal

pub parts-init : goal.parts-init
parts-init g c =
    let fold = c.args.fold in
    let a : c.args.fold.left + 0 ≡ c.args.fold.left = omega arith in
    let b : c.args.fold.right + 0 ≡ c.args.fold.right = omega arith in
    let all : c.args.fold.count - 0 ≡ c.args.fold.count = omega arith in
    let text = fold_part c.args.sessions.left.now c.args.sessions.right.now in
    let is : flat_map text (parts_of ((fold.count - 0 + 199) / 200) (fold_behind fold 0)) ≡ flat_map text (parts fold) =
    (λ i. flat_map text (parts_of ((all i + 199) / 200) (record { left = a i; right = b i; count = all i }))) in
    record {
      inside = omega arith;
      left = none-said g.S.TextSink.says c.args.out.now _ _ (g.met.S.TextSink.nothing c.args.out.now) is;
    }

pub parts-preserved : goal.parts-preserved
parts-preserved g c = record {
  inside = omega (arith, c.min-count.ensures, c.parts-test.true);
  left = turn-part g.S.TextSink.says g.met.S.TextSink.onward (fold_part c.args.sessions.left.now c.args.sessions.right.now) c.args.fold c.args.out.now _
      c.parts.said c.min-count.result c.parts.out c.say_fold_part.new.out c.parts-test.true c.min-count.ensures c.parts.invariant.left c.say_fold_part.ensures;
}

pub returns : goal.returns
returns g c =
    turn-end g.S.TextSink.says g.met.S.TextSink.onward (fold_part c.args.sessions.left.now c.args.sessions.right.now) c.args.fold c.args.out.now _
    c.parts.said c.parts.out c.parts-test.false c.parts.invariant.left
