use Rattle.std.proofs.Common.{◌++◌, ℕ, arith, subst, length-append}
use Rattle.std.specs.Prelude.{codes}
use Rattle.can_log.specs.Refused.{IsRefusedPlace}
use Rattle.can_log.proofs.LineLength.{becomes_length}
use Rattle.can_log.proofs.RefusedPlaces.{place_of, place_extends, place_end}
use Rattle.can_log.proofs.judgement.ended.Goals as goal

pub overflow_cast-result : goal.overflow_cast-result
overflow_cast-result c = let n = becomes_length (c.args.line.now ++ c.args.bytes.now) c.in-Short.ensures.0 in omega (arith, n, length-append c.args.line.now c.args.bytes.now)

pub returns-in-Short-clause-err : goal.returns-in-Short-clause-err
returns-in-Short-clause-err c =
    let x = c.args.line.now ++ c.args.bytes.now in
    subst (λ (k : ℕ). IsRefusedPlace (x ++ codes "\n") k) (omega (arith, length-append c.args.line.now c.args.bytes.now)) (place_end x c.in-Short.ensures.0 c.in-Short.ensures.1)

pub returns-in-Refused-clause-err : goal.returns-in-Refused-clause-err
returns-in-Refused-clause-err c =
    let x = c.args.line.now ++ c.args.bytes.now in
    place_extends x (codes "\n") c.in-Refused.column (place_of x c.in-Refused.column c.requires.clean c.in-Refused.ensures)
