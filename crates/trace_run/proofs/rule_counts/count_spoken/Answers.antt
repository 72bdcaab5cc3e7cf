-- The rule of a message counts it, and no other does.
use Rattle.std.proofs.Common.{arith, slice_set, ap, sym, ◌∙◌}
use Rattle.trace_run.proofs.CountedRules.{counted_at, counted_there, none_there}
use Rattle.trace_run.proofs.rule_counts.count_spoken.Goals as goal

pub returns-then-place-counts : goal.returns-then-place-counts
returns-then-place-counts c =
    let counts = c.args.counts.now in
    ap (slice_set counts c.in-Some.place) c.saturating_add.ensures
    ∙ ap (λ found. counted_at found counts) (sym (sym c.rule_of.ensures.value ∙ c.in-Some.is))
    ∙ counted_there c.args.rules.now c.rule_of.ensures.legal.apart c.args.message.now counts

pub returns-else-place-counts : goal.returns-else-place-counts
returns-else-place-counts c =
    let counts = c.args.counts.now in
    none_there counts c.in-Some.place (omega (arith, c.if-place-counts.false))
    ∙ ap (λ found. counted_at found counts) (sym (sym c.rule_of.ensures.value ∙ c.in-Some.is))
    ∙ counted_there c.args.rules.now c.rule_of.ensures.legal.apart c.args.message.now counts

pub returns-in_default : goal.returns-in_default
returns-in_default c =
    let counts = c.args.counts.now in
    ap (λ found. counted_at found counts) (sym (sym c.rule_of.ensures.value ∙ c.in_default.is))
    ∙ counted_there c.args.rules.now c.rule_of.ensures.legal.apart c.args.message.now counts
