use Rattle.std.proofs.Common.{◌≡◌, ◌∙◌, ◌++◌, ◌-◌, ℕ, List, length, take, arith, ap, subst, refl}
use Rattle.std.proofs.lemmas.List.{length-take}
use Rattle.can_log.specs.proving.Judging.{Judged}
use Rattle.can_log.proofs.Results.{from_ok}
use Rattle.can_log.proofs.LineLength.{joined_any}
use Rattle.can_log.proofs.judgement.joined_judgement.Goals as goal

pub returns : goal.returns
returns c =
    let line = c.args.line.now in
    let bytes = c.args.bytes.now in
    let n = 224 - length line in
    let fits = c.try_extend_from_slice.ensures.variant.1 (rw c.new-joined.ensures (omega arith)) in
    let one : c.try_extend_from_slice.new.self.items ≡ line =
    from_ok c.try_extend_from_slice.result c.try_extend_from_slice.ensures.ok fits ∙ ap (λ (z : List ℕ). z ++ line) c.new-joined.ensures
    in
    let fits2 = c.try_extend_from_slice-2.ensures.variant.1 (rw (one, c.front_of.ensures) (omega (arith, length-take n bytes))) in
    let two : c.try_extend_from_slice-2.new.self.items ≡ line ++ take n bytes =
    from_ok c.try_extend_from_slice-2.result c.try_extend_from_slice-2.ensures.ok fits2 ∙ rw (one, c.front_of.ensures) refl
    in
    let judged = subst (λ (z : List ℕ). Judged z c.judgement_on.result) (c.as_slice.ensures.value ∙ two) c.judgement_on.ensures in
    joined_any line bytes n c.judgement_on.result (omega arith) judged
