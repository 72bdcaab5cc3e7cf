use Rattle.std.proofs.Common.{◌≡◌, ℕ, List, subst}
use Rattle.std.specs.Prelude.{IfOk}
use Rattle.trace_difference.proofs.DifferencesInMemory.{difference_is, needed_where_refused}
use Rattle.trace_difference.proofs.in_memory.text_of.Goals as goal

pub returns-clause-text : goal.returns-clause-text
returns-clause-text c =
    let left = c.args.compared.now.left in
    let right = c.args.compared.now.right in
    let difference = c.in_ok-difference.difference in
    subst (λ (said : List ℕ). IfOk c.gathered.result (λ text. text.items ≡ said))
    (difference_is c.args.rules.now c.args.notation c.args.left_name.now c.args.right_name.now difference.shortest difference.rows.items left right c.in_ok-difference.ensures.shortest c.in_ok-difference.ensures.rows)
    c.gathered.ensures.text

pub returns-clause-refused : goal.returns-clause-refused
returns-clause-refused c =
    let left = c.args.compared.now.left in
    let right = c.args.compared.now.right in
    let difference = c.in_ok-difference.difference in
    needed_where_refused c.args.rules.now c.args.notation c.args.left_name.now c.args.right_name.now _ c.args.compared.now c.gathered.result
    (difference_is c.args.rules.now c.args.notation c.args.left_name.now c.args.right_name.now difference.shortest difference.rows.items left right c.in_ok-difference.ensures.shortest c.in_ok-difference.ensures.rows)
    c.gathered.ensures.refused
