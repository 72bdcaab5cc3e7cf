use Rattle.std.proofs.Common.{ℕ, List, subst}
use Rattle.udsnorm.specs.Telling.{WroteText}
use Rattle.udsnorm.proofs.Pairs.{difference_is, wrote_by_print}
use Rattle.udsnorm.proofs.pair_jobs.write_differing.Goals as goal

pub returns-clause-text : goal.returns-clause-text
returns-clause-text g c =
    let left = c.args.compared.now.left in
    let right = c.args.compared.now.right in
    let difference = c.in_ok-difference.difference in
    subst (λ (text : List ℕ). WroteText g.W.Target text c.is_ok.result c.args.out.now c.write_difference.new.target)
    (difference_is c.args.rules.now c.args.notation c.args.left_name.now c.args.right_name.now c.as_bytes.result.now c.as_bytes-2.result.now difference.shortest difference.rows.items left right c.as_bytes.ensures.value
    c.as_bytes-2.ensures.value c.in_ok-difference.ensures.shortest c.in_ok-difference.ensures.rows)
    (wrote_by_print g.W.Target _ c.args.out.now c.write_difference.new.target c.write_difference.result c.is_ok.result c.write_difference.ensures.printed c.is_ok.ensures.value)
