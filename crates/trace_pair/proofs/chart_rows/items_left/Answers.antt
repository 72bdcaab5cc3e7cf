-- The first item that begins at or behind the place leaves itself and all behind it.
use Rattle.std.proofs.Common.{◌≡◌, ℕ, ◌+◌, ◌-◌, ◌<◌, ap, sym, ◌∙◌, arith}
use Rattle.trace_pair.specs.FirstDifference.{items_left}
use Rattle.trace_pair.proofs.LeftItems.{left-here, left-later, left-none}
use Rattle.trace_pair.proofs.chart_rows.items_left.Goals as goal

pub items-init : goal.items-init
items-init c =
    let all : c.args.count ≡ c.args.item + c.args.count - c.args.item = omega arith in
    ap (λ (n : ℕ). items_left c.args.place c.args.item n c.args.rows.now) all

pub returns-then-begins_behind : goal.returns-then-begins_behind
returns-then-begins_behind c =
    let end = c.args.item + c.args.count in
    let below : c.items.at < c.args.item + c.args.count = omega (arith, c.items-test.true) in
    sym (c.items.invariant ∙ left-here c.args.place c.args.rows.now c.items.at end below (sym c.begins_behind.ensures ∙ c.if-begins_behind.true))

pub items-preserved : goal.items-preserved
items-preserved c =
    let end = c.args.item + c.args.count in
    let below : c.items.at < c.args.item + c.args.count = omega (arith, c.items-test.true) in
    c.items.invariant ∙ left-later c.args.place c.args.rows.now c.items.at end below (sym c.begins_behind.ensures ∙ c.if-begins_behind.false)

pub returns : goal.returns
returns c =
    let end = c.args.item + c.args.count in
    sym (c.items.invariant ∙ left-none c.args.place c.args.rows.now c.items.at end (omega (arith, c.items-test.false)))
