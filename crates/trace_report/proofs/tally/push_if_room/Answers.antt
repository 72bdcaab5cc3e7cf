-- Where ten targets stand, one more is none of the first ten.
use Rattle.std.proofs.Common.{◌≡◌, ◌∷◌, [], ◌++◌, length, take, sym, subst, rules}
use Rattle.std.proofs.Math.Seq.{take-append_seam}
use Rattle.trace_report.proofs.tally.push_if_room.Goals as goal

pub returns-else-not-is_full : goal.returns-else-not-is_full
returns-else-not-is_full c =
    let first = c.args.first.now.items in
    let full : length first ≡ 10 = search rules in
    sym (subst (λ n. take n (first ++ c.args.target ∷ []) ≡ first) full (take-append_seam first (c.args.target ∷ [])))
