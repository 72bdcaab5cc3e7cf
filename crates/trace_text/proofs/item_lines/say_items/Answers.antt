-- Each item adds its line, numbered by its place.
use Rattle.std.proofs.Common.{sym, arith, ap, subst, take_all}
use Rattle.trace_text.specs.ItemLines.{list_text}
use Rattle.trace_text.proofs.ItemLines.{more_lines}
use Rattle.trace_text.proofs.Lists.{is_there}
use Rattle.trace_text.proofs.item_lines.say_items.Goals as goal
use Rattle.trace_text.proofs.item_lines.say_items.Goals.{in-Some, in_default}

pub items-init : goal.items-init
items-init g c = g.met.S.TextSink.nothing c.args.out.now

pub items-preserved : goal.items-preserved
items-preserved g c =
    let its = c.args.meaning.now in
    elim c.match-item.branch [
      | in-Some w ↦
          rw w.out-is
          (subst (λ text. g.S.TextSink.says c.args.out.now text w.say_item_line.new.out)
          (sym (more_lines c.args.rules.now c.args.style its c.items.i _ (sym w.in-Some.ensures)))
          (g.met.S.TextSink.onward _ _ _ _ _ c.items.invariant w.say_item_line.ensures))
      | in_default w ↦ absurd (is_there its c.items.i (omega (arith, c.len-i-end.ensures)) (sym w.in_default.ensures))
    ]

pub returns : goal.returns
returns g c =
    let its = c.args.meaning.now in
    let whole = take_all c.items.i its (omega (arith, c.len-i-end.ensures, c.items-test.false)) in
    subst (λ text. g.S.TextSink.says c.args.out.now text c.items.out) (ap (list_text c.args.rules.now c.args.style) whole) c.items.invariant
