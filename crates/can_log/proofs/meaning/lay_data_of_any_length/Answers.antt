use Rattle.std.proofs.Common.{◌≡◌, ℕ, ◌+◌, ◌-◌, ◌*◌, ◌/◌, take, drop, length, length-drop, sym, ap, ◌∙◌, arith}
use Rattle.std.proofs.lemmas.List.{length-take-le}
use Rattle.std.proofs.Math.Seq.{take-length}
use Rattle.can_log.specs.Line.{bytes_spelled}
use Rattle.can_log.proofs.SpelledBytes.{the_rest, whole_sixteens}
use Rattle.can_log.proofs.meaning.lay_data_of_any_length.Goals as goal

pub write_at-requires : goal.write_at-requires
write_at-requires c =
    let digits = c.args.digits.now in
    let i = length digits / 16 in
    let last = take (length digits - 16 * i) (drop (16 * i) digits) in
    let rest : length last ≡ length digits - 16 * i = length-take-le (length digits - 16 * i) (drop (16 * i) digits) (omega (arith, length-drop (16 * i) digits)) in
    let fewer : length (take (length last / 2) c.few_bytes.result) ≡ length last / 2 = length-take-le (length last / 2) c.few_bytes.result (omega (arith, rest)) in
    omega (arith, rest, fewer, c.requires.size, c.if-digits-ne0.true, c.lay_sixteens.ensures.length)

pub returns-then-digits-ne0 : goal.returns-then-digits-ne0
returns-then-digits-ne0 c =
    let digits = c.args.digits.now in
    let i = length digits / 16 in
    let last = take (length digits - 16 * i) (drop (16 * i) digits) in
    let part = take (length last / 2) c.few_bytes.result in
    let rest : length last ≡ length digits - 16 * i = length-take-le (length digits - 16 * i) (drop (16 * i) digits) (omega (arith, length-drop (16 * i) digits)) in
    let fewer : length part ≡ length last / 2 = length-take-le (length last / 2) c.few_bytes.result (omega (arith, rest)) in
    let all : 8 * i + length part ≡ length c.write_at.new.line = omega (arith, rest, fewer, c.requires.text.1, c.requires.size, c.lay_sixteens.ensures.length, c.write_at.ensures.length) in
    let laid : take (8 * i + length part) c.write_at.new.line ≡ bytes_spelled digits =
    c.write_at.ensures.written ∙ rw (c.lay_sixteens.ensures.laid, c.few_bytes.ensures) (the_rest i digits (omega arith))
    in
    sym (take-length c.write_at.new.line) ∙ ap (λ (n : ℕ). take n c.write_at.new.line) (sym all) ∙ laid

pub returns-else-digits-ne0 : goal.returns-else-digits-ne0
returns-else-digits-ne0 c =
    let digits = c.args.digits.now in
    let bytes = c.lay_sixteens.new.bytes in
    let all : 8 * (length digits / 16) ≡ length bytes = omega (arith, c.requires.size, c.if-digits-ne0.false, c.lay_sixteens.ensures.length) in
    sym (take-length bytes) ∙ ap (λ (n : ℕ). take n bytes) (sym all) ∙ c.lay_sixteens.ensures.laid ∙ whole_sixteens digits (omega (arith, c.if-digits-ne0.false))
