-- The digits of the first bytes stand in front of those of eight.
use Rattle.std.proofs.Common.{◌≡◌, ℕ, ◌*◌, ◌/◌, ◌%◌, List, [], ◌∷◌, take, arith, ap, subst, refl, ◌∙◌}
use Prim.Native.Nat.{zero, suc}
use Rattle.std.specs.List.{flat_map}
use Rattle.can_log.specs.Digits.{hexadecimal, digit, digits}
use Rattle.trace_text.specs.Words.{bytes_text}
use Rattle.trace_text.proofs.bytes.say_front.Goals as goal

-- two digits for each of the first bytes
front_digits : (count : ℕ) (bytes : List ℕ) → take (2 * count) (flat_map (hexadecimal 2) bytes) ≡ bytes_text (take count bytes)
unfolding digits
front_digits zero bytes = refl
front_digits (suc count) [] =
    let two_more : 2 * suc count ≡ suc (suc (2 * count)) = omega arith in
    rw two_more refl
front_digits (suc count) (byte ∷ bytes) =
    let two_more : 2 * suc count ≡ suc (suc (2 * count)) = omega arith in
    rw two_more (ap (λ later. digit (byte / 16 % 16) ∷ digit (byte % 16) ∷ later) (front_digits count bytes))

pub returns : goal.returns
returns g c =
    subst (λ text. g.S.TextSink.says c.args.out.now text c.put.new.self)
    (ap (take (2 * c.args.count)) c.digits_of_bytes.ensures ∙ front_digits c.args.count c.args.eight.now) c.put.ensures
