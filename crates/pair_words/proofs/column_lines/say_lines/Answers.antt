-- Each line is said behind those before it.
use Rattle.std.proofs.Common.{◌≡◌, ◌+◌, ◌-◌, ℕ, arith, ap}
use Rattle.std.specs.List.{flat_map, range_with_len}
use Rattle.std.proofs.lemmas.List.{length-take}
use Rattle.text_parts.proofs.Promises.{none-said, said-whole, same-rest, say-more}
use Rattle.pair_words.specs.ColumnLines.{line_text}
use Rattle.pair_words.proofs.LineNumbers.{range-first, range-none}
use Rattle.pair_words.proofs.column_lines.say_lines.Goals as goal

pub overflow_add-at-end : goal.overflow_add-at-end
overflow_add-at-end g c = omega (arith, c.requires, length-take 4095 c.args.fold.columns.now)

pub lines-init : goal.lines-init
lines-init g c =
    let text = line_text c.args.shown c.args.with_letters c.args.fold.columns.now in
    let all : c.args.fold.first + c.args.fold.count - c.args.fold.first ≡ c.args.fold.count = omega arith in
    record {
      up = omega arith;
      left = none-said g.S.TextSink.says c.args.out.now _ _ (g.met.S.TextSink.nothing c.args.out.now) (ap (λ (n : ℕ). flat_map text (range_with_len c.args.fold.first n)) all);
    }

pub lines-preserved : goal.lines-preserved
lines-preserved g c =
    let text = line_text c.args.shown c.args.with_letters c.args.fold.columns.now in
    let end = c.args.fold.first + c.args.fold.count in
    record {
      up = omega (arith, c.lines.invariant.up);
      left = say-more g.S.TextSink.says g.met.S.TextSink.onward c.args.out.now c.lines.out _ (text c.lines.at) _ _
          (same-rest g.S.TextSink.says c.args.out.now c.lines.out _ _ _ (ap (flat_map text) (range-first c.lines.at (c.args.fold.first + c.args.fold.count) (omega (arith, c.lines-test.true)))) c.lines.invariant.left)
          c.say_line.ensures;
    }

pub returns : goal.returns
returns g c =
    let text = line_text c.args.shown c.args.with_letters c.args.fold.columns.now in
    said-whole g.S.TextSink.says c.args.out.now c.lines.out _
    (same-rest g.S.TextSink.says c.args.out.now c.lines.out _ _ _ (ap (flat_map text) (range-none c.lines.at (c.args.fold.first + c.args.fold.count) (omega (arith, c.lines-test.false)))) c.lines.invariant.left)
