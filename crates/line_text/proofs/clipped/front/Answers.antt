use Rattle.std.proofs.Common.{rules, arith, length, ◌≤◌, ◌<◌, sym, take_all, length-take-le}
use Rattle.line_text.proofs.clipped.front.Goals as goal

pub slice_bounds-result-end : goal.slice_bounds-result-end
slice_bounds-result-end c =
    let long : 80 ≤ length c.args.text.now = search rules in
    sym (length-take-le 80 c.args.text.now long)

pub returns-then-text-le-MOST_SHOWN : goal.returns-then-text-le-MOST_SHOWN
returns-then-text-le-MOST_SHOWN c =
    let short : length c.args.text.now ≤ 80 = search rules in
    sym (take_all 80 c.args.text.now short)
