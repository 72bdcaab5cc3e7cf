-- There are no more items than rows.
use Rattle.std.proofs.Common.{◌≡◌, ℕ, ◌+◌, ◌≤◌, length, ap, inl, inr, sym, ◌∙◌, arith}
use Rattle.std.proofs.lemmas.Bool.{cases_lt}
use Rattle.trace_pair.specs.Losses.{first_row}
use Rattle.trace_pair.proofs.LossPlaces.{first-all}
use Rattle.trace_pair.proofs.losses.stretch.Goals as goal

pub returns-clause-to : goal.returns-clause-to
returns-clause-to c =
    let rows = c.args.rows.now in
    let many = c.len.ensures.value in
    let few = c.len.ensures.small in
    c.first_row-2.ensures ∙ elim (cases_lt (c.args.item + c.args.count) (length c.args.rows.now)) [
      | inl there ↦
          let same : c.min-end.result ≡ c.args.item + c.args.count = omega (arith, c.min-end.ensures, c.saturating_add.ensures, many, few, there) in
          ap (λ (n : ℕ). first_row n rows) same
      | inr past ↦
          let end : length c.args.rows.now ≤ c.min-end.result = omega (arith, c.min-end.ensures, c.saturating_add.ensures, many, few, past) in
          first-all c.min-end.result rows end ∙ sym (first-all (c.args.item + c.args.count) rows past)
    ]
