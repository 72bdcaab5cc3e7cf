-- Sixteen bytes in one store are the bytes from there on.
use Rattle.std.proofs.Common.{◌+◌, length, take, arith, refl, ap, ◌∙◌}
use Rattle.std.proofs.lemmas.List.{take_all}
use Rattle.std.proofs.lemmas.Simd.{take_more_put_chunk}
use lib.Lanes.{put_chunk}
use Rattle.trace_run.proofs.gathered_text.lay.Goals as goal

pub returns-then-text-eq16-clause-laid : goal.returns-then-text-eq16-clause-laid
returns-then-text-eq16-clause-laid c =
    let text = c.args.text.now in
    let whole = take_all 16 text (omega arith) in
    ap (λ t. take (c.args.at + length text) (put_chunk c.args.at c.args.bytes.now t)) whole
    ∙ take_more_put_chunk c.args.at c.args.bytes.now text (c.args.at + length text) refl (omega (arith, c.requires))
