use Rattle.std.proofs.Common.{◌≡◌, ◌+◌, ◌-◌, ◌*◌, take, length, sym, ◌∙◌, arith}
use Rattle.can_log.specs.Line.{bytes_spelled}
use Rattle.can_log.proofs.SpelledBytes.{part_of_front, sixteen_more}
use Rattle.can_log.proofs.meaning.lay_sixteens.Goals as goal

pub eight_bytes-requires-clause-text : goal.eight_bytes-requires-clause-text
eight_bytes-requires-clause-text c = part_of_front c.loop-i.i c.args.sixteens c.args.digits.now c.requires.text c.requires.room (omega arith)

pub loop-i-preserved : goal.loop-i-preserved
loop-i-preserved c =
    let digits = c.args.digits.now in
    let i = c.loop-i.i in
    let width : 16 * i + 16 - 16 * i ≡ 16 = omega arith in
    let next : 8 * (i + 1) ≡ 8 * i + length c.eight_bytes.result = omega arith in
    let laid : take (8 * i + length c.eight_bytes.result) c.write_at.new.line ≡ bytes_spelled (take (16 * (i + 1)) digits) =
    c.write_at.ensures.written ∙ rw (c.loop-i.invariant.0, c.eight_bytes.ensures, width) (sym (sixteen_more i digits (omega (arith, c.requires.room))))
    in
    (rw next laid, rw c.write_at.ensures.length c.loop-i.invariant.1)
