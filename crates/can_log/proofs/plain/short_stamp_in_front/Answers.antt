use Rattle.std.proofs.Common.{ℕ, ◌≡◌, ◌+◌, ◌-◌, ◌∙◌, ap, length, take, drop, subst, arith}
use Rattle.std.proofs.lemmas.List.{take-take}
use Rattle.can_log.specs.proving.Plain.{AreDecimals}
use Rattle.can_log.proofs.PlainLines.{stamp_cut}
use Rattle.can_log.proofs.plain.short_stamp_in_front.Goals as goal

pub returns-clause-stamp : goal.returns-clause-stamp
returns-clause-stamp c =
    let bytes = c.args.bytes.now in
    let n = c.decimal_front-seconds.result in
    let behind = drop (n + 1) bytes in
    let six : c.decimal_front.result ≡ 6 = omega arith in
    let counted : take c.decimal_front.result (take (length bytes - (n + 1)) behind) ≡ take 6 behind =
    ap (λ (k : ℕ). take k (take (length bytes - (n + 1)) behind)) six ∙ take-take 6 (length bytes - (n + 1)) behind (omega arith)
    in
    stamp_cut bytes c.split_at.result.0.now n c.split_at.ensures.front (omega arith) (omega arith) (omega arith) c.if-bytes-seconds-ne46.false
    c.decimal_front-seconds.ensures.1.each (subst AreDecimals counted c.decimal_front.ensures.1.each)
