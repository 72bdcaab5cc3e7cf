-- There is room for one count more.
use Rattle.std.proofs.Common.{◌≡◌, ℕ, List, length, ap, ◌∙◌, arith}
use Rattle.std.proofs.lemmas.List.{length-replicate}
use Rattle.trace_run.proofs.rule_counts.zeros.Goals as goal

pub push-requires : goal.push-requires
push-requires c =
    let long : length c.rules.counts.items ≡ c.rules._done =
    ap (λ (items : List ℕ). length items) c.rules.invariant ∙ length-replicate c.rules._done 0 in
    omega (arith, long, c.requires, c.rules-test.true)
