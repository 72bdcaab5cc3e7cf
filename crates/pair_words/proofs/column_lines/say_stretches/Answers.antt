-- Each stretch is said behind those before it.
use Rattle.std.proofs.Common.{ap, sym, subst, ◌∙◌}
use Rattle.std.specs.List.{flat_map}
use Rattle.text_parts.proofs.Promises.{none-said, said-whole, same-rest, say-more}
use Rattle.byte_columns.specs.Laws.{AreOfOneKind}
use Rattle.byte_columns.proofs.Promises.{stretches_are_of_one_kind}
use Rattle.pair_words.specs.ColumnLines.{stretch_text}
use Rattle.pair_words.proofs.column_lines.say_stretches.Goals as goal

pub lines-init : goal.lines-init
lines-init g c =
    let columns = c.args.columns.now in
    let text = stretch_text c.args.shown c.args.with_letters columns in
    let all = c.into_iter-stretch-iterator.ensures.into_iter_gives ∙ c.stretches-stretch-items.ensures in
    record {
      kinds = subst (AreOfOneKind c.args.columns.now) (sym all) (stretches_are_of_one_kind c.args.columns.now);
      left = none-said g.S.TextSink.says c.args.out.now _ _ (g.met.S.TextSink.nothing c.args.out.now) (ap (flat_map text) all);
    }

pub say_stretch-requires : goal.say_stretch-requires
say_stretch-requires g c = (subst (AreOfOneKind c.args.columns.now) c.in-Some.ensures.steps c.lines.invariant.kinds).0

pub lines-preserved : goal.lines-preserved
lines-preserved g c =
    let text = stretch_text c.args.shown c.args.with_letters c.args.columns.now in
    let steps = c.in-Some.ensures.steps in
    record {
      kinds = (subst (AreOfOneKind c.args.columns.now) c.in-Some.ensures.steps c.lines.invariant.kinds).2;
      left = say-more g.S.TextSink.says g.met.S.TextSink.onward c.args.out.now c.lines.out _ (text c.in-Some.stretch) (flat_map text c.next.new.self) _
          (same-rest g.S.TextSink.says c.args.out.now c.lines.out _ _ _ (ap (flat_map text) steps) c.lines.invariant.left) c.say_stretch.ensures;
    }

pub returns : goal.returns
returns g c =
    let text = stretch_text c.args.shown c.args.with_letters c.args.columns.now in
    said-whole g.S.TextSink.says c.args.out.now c.lines.out _
    (same-rest g.S.TextSink.says c.args.out.now c.lines.out _ _ _ (ap (flat_map text) c.in-None.ensures.steps.0) c.lines.invariant.left)
