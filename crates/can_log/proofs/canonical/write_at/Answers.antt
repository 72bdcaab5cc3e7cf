use Rattle.std.proofs.Common.{arith, ◌+◌, ◌-◌, length}
use Rattle.std.proofs.lemmas.Slice.{drop-put_mid}
use Rattle.can_log.proofs.canonical.write_at.Goals as goal

pub returns-clause-kept : goal.returns-clause-kept
returns-clause-kept c =
    drop-put_mid c.args.at (c.args.at + length c.args.part.now - c.args.at) c.args.line.now c.copy_from_slice.new.self (c.args.at + length c.args.part.now)
    (omega arith) (omega (arith, c.requires)) (omega (arith, c.copy_from_slice.ensures.len))
