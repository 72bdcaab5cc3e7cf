use Rattle.std.proofs.Common.{◌≡◌, ◌++◌, [], List, ℕ, subst, sym}
use Rattle.can_log.specs.proving.Judging.{Judged}
use Rattle.can_log.proofs.Lists.{nil_of}
use Rattle.can_log.proofs.judgement.line_judgement.Goals as goal

pub returns-then-is_empty : goal.returns-then-is_empty
returns-then-is_empty c =
    let none : c.args.line.now ≡ [] = nil_of c.args.line.now c.is_empty.result c.is_empty.ensures c.if-is_empty.true in
    subst (λ (z : List ℕ). Judged (z ++ c.args.bytes.now) c.judgement_on.result) (sym none) c.judgement_on.ensures
